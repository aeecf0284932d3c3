-- The two files while they are written.
use Rattle.std.proofs.Common.{◌≡◌, ◌≢◌, inl, inr, ℕ, List, [], ◌++◌, length, take, refl, sym, ◌∙◌, ap, arith}
use Rattle.std.specs.Prelude.{Option, Some, None, option_map, is_some, true, false}
use Rattle.std.specs.FinMap.{get, insert}
use Rattle.std.proofs.Math.Seq.{take-length}
use Rattle.outside.specs.Files.{Files, created, appended, Lacks, AppendedSome}
use Rattle.outside.proofs.Shelves.{get-insert_same, get-insert_other, get-first, appended_first, appended_second, then_mapped, mapped_alike}
use Rattle.play_core.specs.Files.{with_two, AreBegun, IsStopped}
use Rattle.turns.specs.declared.target.Target.{Target}
use Rattle.turns.specs.declared.target.Target.TheVariants.{Sound, Order}

module _ (out order : List ℕ) (ne : out ≢ order) where
  pub begun_none : (o : Option Files) (sound text : List ℕ) → AreBegun o o out sound order text
  begun_none o sound text = record { out_begun = inl refl; order_begun = inl refl; others = λ name a b. refl }

  pub begun_first : (o now : Option Files) (sound text : List ℕ) → now ≡ option_map (created out) o → AreBegun o now out sound order text
  begun_first None now sound text is = rw is (begun_none None sound text)
  begun_first (Some m) now sound text is = rw is (record {
    out_begun = inr (0, get-insert_same m out []);
    order_begun = inl (get-insert_other m out [] order (λ e. ne (sym e)));
    others = λ name a b. get-insert_other m out [] name a;
  })

  pub begun_both : (o now : Option Files) (sound text : List ℕ) (i j : ℕ)
      → now ≡ option_map (with_two out (take i sound) order (take j text)) o → AreBegun o now out sound order text
  begun_both None now sound text i j is = rw is (begun_none None sound text)
  begun_both (Some m) now sound text i j is = rw is (record {
    out_begun = inr (i, get-first m out (take i sound) order (take j text) ne);
    order_begun = inr (j, get-insert_same (insert m out (take i sound)) order (take j text));
    others = λ name a b. get-insert_other (insert m out (take i sound)) order (take j text) name b ∙ get-insert_other m out (take i sound) name a;
  })

  pub begun_whole : (o now : Option Files) (sound text : List ℕ)
      → now ≡ option_map (with_two out sound order text) o → AreBegun o now out sound order text
  begun_whole o now sound text is =
      begun_both o now sound text (length sound) (length text)
      (is ∙ ap (λ (s : List ℕ). option_map (with_two out s order text) o) (sym (take-length sound))
      ∙ ap (λ (t : List ℕ). option_map (with_two out (take (length sound) sound) order t) o) (sym (take-length text)))

  -- the steps
  pub both_made : (o first now : Option Files) → first ≡ option_map (created out) o → now ≡ option_map (created order) first
      → now ≡ option_map (with_two out [] order []) o
  both_made o first now a b = b ∙ ap (option_map (created order)) a ∙ then_mapped (created out) (created order) o

  pub sound_grows : (o before now : Option Files) (x y z : List ℕ)
      → before ≡ option_map (with_two out x order y) o → now ≡ option_map (appended out z) before
      → now ≡ option_map (with_two out (x ++ z) order y) o
  sound_grows o before now x y z was is =
      is ∙ ap (option_map (appended out z)) was ∙ then_mapped (with_two out x order y) (appended out z) o
      ∙ mapped_alike _ _ (λ m. appended_first m out x order y z ne) o

  pub text_grows : (o before now : Option Files) (x y z : List ℕ)
      → before ≡ option_map (with_two out x order y) o → now ≡ option_map (appended order z) before
      → now ≡ option_map (with_two out x order (y ++ z)) o
  text_grows o before now x y z was is =
      is ∙ ap (option_map (appended order z)) was ∙ then_mapped (with_two out x order y) (appended order z) o
      ∙ mapped_alike _ _ (λ m. appended_second (insert m out x) order y z) o

  pub has_first : (o now : Option Files) (x y : List ℕ) → now ≡ option_map (with_two out x order y) o → Lacks now out → ⊥
  has_first None now x y is lacks = rw is at lacks
  has_first (Some m) now x y is lacks =
      let none : is_some (get (with_two out x order y m) out) ≡ false = rw is at lacks in
      let some : is_some (get (with_two out x order y m) out) ≡ true = ap is_some (get-first m out x order y ne) in
      cc

  pub has_second : (o now : Option Files) (x y : List ℕ) → now ≡ option_map (with_two out x order y) o → Lacks now order → ⊥
  has_second None now x y is lacks = rw is at lacks
  has_second (Some m) now x y is lacks =
      let none : is_some (get (with_two out x order y m) order) ≡ false = rw is at lacks in
      let some : is_some (get (with_two out x order y m) order) ≡ true = ap is_some (get-insert_same (insert m out x) order y) in
      cc

  -- where the writes stopped

  pub sound_stopped : (o before now : Option Files) (sound text : List ℕ)
      → before ≡ option_map (with_two out [] order []) o → AppendedSome out sound before now → IsStopped Sound o now out sound order text
  sound_stopped o before now sound text was (inl same) = inr (0, omega arith, same ∙ was)
  sound_stopped o before now sound text was (inr (count, fits, is)) = inr (count, fits, sound_grows o before now [] [] (take count sound) was is)

  pub text_stopped : (o before now : Option Files) (sound text : List ℕ)
      → before ≡ option_map (with_two out sound order []) o → AppendedSome order text before now → IsStopped Order o now out sound order text
  text_stopped o before now sound text was (inl same) = inr (0, omega arith, same ∙ was)
  text_stopped o before now sound text was (inr (count, fits, is)) = inr (count, fits, text_grows o before now sound [] (take count text) was is)

  pub stopped_begun : (target : Target) (o now : Option Files) (sound text : List ℕ) → IsStopped target o now out sound order text
      → AreBegun o now out sound order text
  stopped_begun Sound o now sound text (inl same) = rw same (begun_none o sound text)
  stopped_begun Sound o now sound text (inr (count, fits, is)) = begun_both o now sound text count 0 is
  stopped_begun Order o now sound text (inl made) = begun_first o now sound text made
  stopped_begun Order o now sound text (inr (count, fits, is)) =
      begun_both o now sound text (length sound) count (is ∙ ap (λ (s : List ℕ).
      option_map (with_two out s order (take count text)) o) (sym (take-length sound)))
