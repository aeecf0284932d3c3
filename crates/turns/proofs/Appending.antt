-- The two files while bytes are appended to them.
use Rattle.std.proofs.Common.{◌≡◌, ◌≢◌, ◌⊎◌, inl, inr, ℕ, ◌+◌, ◌≤◌, Bool, true, false, cond, List, [], ◌++◌, length, take, drop, refl, sym, ◌∙◌, ap}
use Rattle.std.proofs.Common.{append_assoc, append-nil, length-append, arith}
use Rattle.std.specs.Prelude.{Option, Some, None, option_map, unwrap_or, is_some}
use Rattle.std.specs.Ordering.{nat_cmp}
use Rattle.std.specs.FinMap.{get, insert, get-insert, same_map, slice_cmp-IsAntisymmetric, nat_cmp-IsAntisymmetric}
use Rattle.std.proofs.lemmas.Cmp.{nat_list_cmp_total}
use Rattle.std.proofs.lemmas.List.{take-append-drop}
use Rattle.std.proofs.Math.Seq.{take-append_seam}
use Rattle.outside.specs.Files.{Files, content, appended, Lacks, AppendedSome}
use Rattle.outside.proofs.Shelves.{same_name, same_name-same, get-insert_same, get-insert_other, get-first, appended_first, appended_again, then_appended}
use Rattle.outside.proofs.Shelves.{then_mapped, mapped_alike}
use Rattle.turns.specs.Written.{both_appended, BothBegun}

-- nothing after a file's own bytes

has : (o : Option (List ℕ)) → (is_some o ≡ false → ⊥) → o ≡ Some (unwrap_or o [])
has None some = absurd (some refl)
has (Some x) some = refl

own_at : (m : Files) (name q : List ℕ) → (Lacks (Some m) name → ⊥) → (b : Bool) → same_name q name ≡ b → cond b (Some (content m name)) (get m q) ≡ get m q
own_at m name q there true same = sym (has (get m name) there) ∙ ap (get m) (sym (same_name-same q name same))
own_at m name q there false same = refl

none_after : (m : Files) (name : List ℕ) → (Lacks (Some m) name → ⊥) → appended name [] m ≡ m
none_after m name there =
    ap (insert m name) (append-nil (content m name))
    ∙ same_map nat_list_cmp_total (slice_cmp-IsAntisymmetric nat_cmp-IsAntisymmetric) _ _
    (λ q. get-insert nat_list_cmp_total m name (content m name) q ∙ own_at m name q there (same_name q name) refl)

pub none_appended : (o : Option Files) (name : List ℕ) → (Lacks o name → ⊥) → o ≡ option_map (appended name []) o
none_appended None name there = refl
none_appended (Some m) name there = ap (λ (n : Files). Some n) (sym (none_after m name there))

-- a prefix of what belongs there
prefix : (whole xs rest : List ℕ) → whole ≡ xs ++ rest → take (length xs) whole ≡ xs
prefix whole xs rest is = ap (take (length xs)) is ∙ take-append_seam xs rest

-- some of the piece, and what follows it
cut_off : (whole xs piece rest : List ℕ) (n : ℕ) → whole ≡ (xs ++ piece) ++ rest → whole ≡ (xs ++ take n piece) ++ (drop n piece ++ rest)
cut_off whole xs piece rest n is =
    is ∙ ap (λ (ys : List ℕ). (xs ++ ys) ++ rest) (sym (take-append-drop n piece))
    ∙ ap (λ (ys : List ℕ). ys ++ rest) (sym (append_assoc xs (take n piece) (drop n piece)))
    ∙ append_assoc (xs ++ take n piece) (drop n piece) rest

-- pieces one after the other after one file, where one stopped
pub piece_stopped : (o before now : Option Files) (name so_far piece all rest : List ℕ) → before ≡ option_map (appended name so_far) o
    → AppendedSome name piece before now → all ≡ (so_far ++ piece) ++ rest
    → AppendedSome name all o now
piece_stopped o before now name so_far piece all rest was (inl same) is =
    let at : all ≡ so_far ++ (piece ++ rest) = is ∙ append_assoc so_far piece rest in
    let l : length all ≡ length so_far + length (piece ++ rest) = ap length at ∙ length-append so_far (piece ++ rest) in
    inr (length so_far, omega (arith, l), same ∙ was ∙ ap (λ (bytes : List ℕ). option_map (appended name bytes) o) (sym (prefix all so_far (piece ++ rest) at)))
piece_stopped o before now name so_far piece all rest was (inr (n, fits, more)) is =
    let at : all ≡ (so_far ++ take n piece) ++ (drop n piece ++ rest) = cut_off all so_far piece rest n is in
    let l : length all ≡ length (so_far ++ take n piece) + length (drop n piece ++ rest) = ap length at
    ∙ length-append (so_far ++ take n piece) (drop n piece ++ rest) in
    inr (
      length (so_far ++ take n piece),
      omega (arith, l),
      more ∙ ap (option_map (appended name (take n piece))) was ∙ then_appended o name so_far (take n piece)
          ∙ ap (λ (bytes : List ℕ). option_map (appended name bytes) o) (sym (prefix all (so_far ++ take n piece) (drop n piece ++ rest) at)),
    )

module _ (sound order : List ℕ) (ne : sound ≢ order) where
  pub both_none : (o : Option Files) → (Lacks o sound → ⊥) → (Lacks o order → ⊥) → o ≡ option_map (both_appended sound [] order []) o
  both_none None s t = refl
  both_none (Some m) s t = ap (λ (n : Files). Some n) (sym (ap (appended order []) (none_after m sound s) ∙ none_after m order t))

  other_kept : (m : Files) (x : List ℕ) → content (insert m sound x) order ≡ content m order
  other_kept m x = ap (λ o. unwrap_or o []) (get-insert_other m sound x order (λ e. ne (sym e)))

  after_both : (m : Files) (a b z : List ℕ) → appended sound z (both_appended sound a order b m) ≡ both_appended sound (a ++ z) order b m
  after_both m a b z =
      let x : List ℕ = content m sound ++ a in
      let x' : List ℕ = content m sound ++ (a ++ z) in
      let e : x ++ z ≡ x' = append_assoc (content m sound) a z in
      let y : content (insert m sound x) order ++ b ≡ content (insert m sound x') order ++ b =
      ap (λ (ys : List ℕ). ys ++ b) (other_kept m x ∙ sym (other_kept m x')) in
      appended_first m sound x order (content (insert m sound x) order ++ b) z ne ∙ (λ i. insert (insert m sound (e i)) order (y i))

  pub sound_grows : (o before now : Option Files) (a b z : List ℕ)
      → before ≡ option_map (both_appended sound a order b) o → now ≡ option_map (appended sound z) before
      → now ≡ option_map (both_appended sound (a ++ z) order b) o
  sound_grows o before now a b z was is =
      is ∙ ap (option_map (appended sound z)) was ∙ then_mapped (both_appended sound a order b) (appended sound z) o
      ∙ mapped_alike _ _ (λ m. after_both m a b z) o

  pub order_grows : (o before now : Option Files) (a b z : List ℕ)
      → before ≡ option_map (both_appended sound a order b) o → now ≡ option_map (appended order z) before
      → now ≡ option_map (both_appended sound a order (b ++ z)) o
  order_grows o before now a b z was is =
      is ∙ ap (option_map (appended order z)) was ∙ then_mapped (both_appended sound a order b) (appended order z) o
      ∙ mapped_alike _ _ (λ m. appended_again (appended sound a m) order b z) o

  pub has_sound : (o now : Option Files) (a b : List ℕ) → now ≡ option_map (both_appended sound a order b) o → Lacks now sound → ⊥
  has_sound None now a b is lacks = rw is at lacks
  has_sound (Some m) now a b is lacks =
      let none : is_some (get (both_appended sound a order b m) sound) ≡ false = rw is at lacks in
      let some : is_some (get (both_appended sound a order b m) sound) ≡ true =
      ap is_some (get-first m sound (content m sound ++ a) order (content (appended sound a m) order ++ b) ne) in
      cc

  pub has_order : (o now : Option Files) (a b : List ℕ) → now ≡ option_map (both_appended sound a order b) o → Lacks now order → ⊥
  has_order None now a b is lacks = rw is at lacks
  has_order (Some m) now a b is lacks =
      let none : is_some (get (both_appended sound a order b m) order) ≡ false = rw is at lacks in
      let some : is_some (get (both_appended sound a order b m) order) ≡ true =
      ap is_some (get-insert_same (appended sound a m) order (content (appended sound a m) order ++ b)) in
      cc

  begun_at : (o now : Option Files) (a b samples lines rest rest' : List ℕ) → now ≡ option_map (both_appended sound a order b) o → samples ≡ a ++ rest
      → lines ≡ b ++ rest'
      → BothBegun sound samples order lines o now
  begun_at o now a b samples lines rest rest' is at_a at_b =
      (length a, length b, is ∙ (λ i. option_map (both_appended sound (sym (prefix samples a rest at_a) i) order (sym (prefix lines b rest' at_b) i)) o))

  -- both are whole
  pub whole_begun : (o now : Option Files) (samples lines : List ℕ) → now ≡ option_map (both_appended sound samples order lines) o
      → BothBegun sound samples order lines o now
  whole_begun o now samples lines is = begun_at o now samples lines samples lines [] [] is (sym (append-nil samples)) (sym (append-nil lines))

  -- where an append stopped

  pub sound_stopped : (o before now : Option Files) (a b z samples lines rest rest' : List ℕ) → before ≡ option_map (both_appended sound a order b) o
      → AppendedSome sound z before now
      → samples ≡ (a ++ z) ++ rest → lines ≡ b ++ rest' → BothBegun sound samples order lines o now
  sound_stopped o before now a b z samples lines rest rest' was (inl same) at_a at_b =
      begun_at o now a b samples lines (z ++ rest) rest' (same ∙ was) (at_a ∙ append_assoc a z rest) at_b
  sound_stopped o before now a b z samples lines rest rest' was (inr (n, fits, is)) at_a at_b =
      begun_at o now (a ++ take n z) b samples lines (drop n z ++ rest) rest' (sound_grows o before now a b (take n z) was is) (cut_off samples a z rest n at_a)
      at_b

  pub order_stopped : (o before now : Option Files) (a b z samples lines rest rest' : List ℕ) → before ≡ option_map (both_appended sound a order b) o
      → AppendedSome order z before now
      → samples ≡ a ++ rest → lines ≡ (b ++ z) ++ rest' → BothBegun sound samples order lines o now
  order_stopped o before now a b z samples lines rest rest' was (inl same) at_a at_b =
      begun_at o now a b samples lines rest (z ++ rest') (same ∙ was) at_a (at_b ∙ append_assoc b z rest')
  order_stopped o before now a b z samples lines rest rest' was (inr (n, fits, is)) at_a at_b =
      begun_at o now a (b ++ take n z) samples lines rest (drop n z ++ rest') (order_grows o before now a b (take n z) was is) at_a
      (cut_off lines b z rest' n at_b)
