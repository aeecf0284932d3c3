-- How the commands on orders end.
use Rattle.std.proofs.Common.{◌≡◌, ℕ, ◌<◌, ◌≤◌, List, [], ◌∷◌, length, refl, sym, subst, lt-ltb}
use Rattle.std.specs.Prelude.{Option, Some, None, IfSome, IsSomeAnd, is_some, false, unwrap_or}
use Rattle.std.specs.FinMap.{get}
use Rattle.std.proofs.lemmas.Bool.{le-ltb}
use Rattle.outside.specs.Files.{Files, Lacks, content, file_of}
use Rattle.take_files.specs.Files.{wav}
use Rattle.take_files.specs.Orders.{IsOrder, OrderData}
use Rattle.tool_core.specs.declared.failure.Failure.{Failure}
use Rattle.tool_core.specs.Verdicts.{TooLarge, Good}
use Rattle.tool_core.specs.Words.{Replay, Verify}
use Rattle.tool_core.specs.Comparisons.{IsCompared}
use Rattle.tool_core.specs.Inputs.{AnOrder, ASound, AreGood, IsJudged, input}
use Rattle.tool_core.specs.Orders.{IsOrderVerdict, sound_verdict, sound_limit, order_limit}
use Rattle.tool_core.specs.Effects.{HasEffect, comparison, writes}
use Rattle.tool_core.specs.Failures.{IsReason, Fails, FailsAt}
use Rattle.outside.specs.Snapshot.{Snapshot}
use Rattle.tool_core.specs.Endings.{IsReadFailure, Puts, Finishes}
use Rattle.tool_core.proofs.Endings.{none_written, put_ends}
use Rattle.tool_core.proofs.Meanings.{unless_reason, limit_reason}

-- ---- an order that serves
abbrev pub IsRead : Option Files → List ℕ → OrderData → Type 0
IsRead files name o = IfSome files (λ told. IsSomeAnd (get told name) (λ file. (length file ≤ order_limit) × IsOrder file o))

good_order : (g : Option (List ℕ)) (o : OrderData) → IsSomeAnd g (λ file. (length file ≤ order_limit) × IsOrder file o) → IsOrderVerdict g Good
good_order None o is = absurd is
good_order (Some file) o is = (is.0, (o, is.1))

order_in : (g : Option (List ℕ)) (o : OrderData) → IsSomeAnd g (λ file. (length file ≤ order_limit) × IsOrder file o) → IsOrder (unwrap_or g []) o
order_in None o is = absurd is
order_in (Some file) o is = is.1

pub order_judged : (files : Option Files) (name : List ℕ) (o : OrderData) → IsRead files name o → IfSome files (λ told. IsJudged (input name AnOrder) told Good)
order_judged None name o is = tt
order_judged (Some told) name o is = good_order (get told name) o is

pub replay_does : (files : Option Files) (order out : List ℕ) (o : OrderData) → IsRead files order o
    → HasEffect (Replay order out) files (writes out (wav o.journal o.blocks))
replay_does files order out o is = (o, refl, known files is)
  where
    known : (f : Option Files) → IsRead f order o → IfSome f (λ told. IsOrder (content told order) o)
    known None h = tt
    known (Some told) h = order_in (get told order) o h

-- ---- a sound file
sound_large : (file : List ℕ) → sound_limit < length file → sound_verdict (Some file) ≡ TooLarge
unfolding sound_verdict
sound_large file past = rw (lt-ltb sound_limit (length file) past) refl

sound_good : (g : Option (List ℕ)) (file : List ℕ) → g ≡ Some file → length file ≤ sound_limit → sound_verdict g ≡ Good
unfolding sound_verdict
sound_good g file is within = rw (is, le-ltb sound_limit (length file) within) refl

pair_good : (files : Option Files) (order : List ℕ) (o : OrderData) → IsRead files order o → IfSome files (λ told. AreGood (input order AnOrder ∷ []) told)
pair_good None order o read = tt
pair_good (Some told) order o read = (good_order (get told order) o read, tt)

second_at : (why : Failure) (order sound : List ℕ) (o : OrderData) (files : Option Files) (before now : ℕ) → IsRead files order o
    → IsReason why ASound files sound before now → FailsAt why (input order AnOrder ∷ (input sound ASound ∷ [])) files sound before now
second_at why order sound o files before now read reason = record {
  one = input sound ASound;
  named = refl;
  reached = record { earlier = input order AnOrder ∷ []; later = []; place = refl; good = pair_good files order o read };
  reason = reason;
}

second_fails : (why : Failure) (order sound : List ℕ) (o : OrderData) (files : Option Files) (before now : ℕ) → IsRead files order o
    → IsReason why ASound files sound before now → Fails why (input order AnOrder ∷ (input sound ASound ∷ [])) files sound before now
second_fails why order sound o files before now read reason =
    unless_reason why ASound files sound before now (FailsAt why (input order AnOrder ∷ (input sound ASound ∷ [])) files sound before now)
    (second_at why order sound o files before now read) reason

-- the same after a read of the order
pub sound_fails : (why : Failure) (order sound : List ℕ) (o : OrderData) (files mid : Option Files) (before mid_reading now : ℕ) → mid ≡ files
    → mid_reading ≡ before
    → IsRead files order o → IsReadFailure why sound_limit mid sound mid_reading now
    → Fails why (input order AnOrder ∷ (input sound ASound ∷ [])) files sound before now
sound_fails why order sound o files mid before mid_reading now same kept read reason =
    second_fails why order sound o files before now read
    (subst (λ (b : ℕ). IsReason why ASound files sound b now) kept
    (subst (λ (f : Option Files). IsReason why ASound f sound mid_reading now) same
    (limit_reason why ASound sound_limit mid sound mid_reading now sound_large reason)))

-- ---- a sound file that was compared
record IsThere (g : Option (List ℕ)) : Type 0 where
  file : List ℕ
  is : g ≡ Some file

there : (g : Option (List ℕ)) → (is_some g ≡ false → ⊥) → IsThere g
there None never = absurd (never refl)
there (Some file) never = record { file = file; is = refl }

module _ (order sound : List ℕ) (o : OrderData) where
  pub good_both : (files : Option Files) → IsRead files order o → (Lacks files sound → ⊥)
      → ((file : List ℕ) → file_of files sound ≡ Some file → length file ≤ sound_limit)
      → IfSome files (λ told. AreGood (input order AnOrder ∷ (input sound ASound ∷ [])) told)
  good_both None read has within = tt
  good_both (Some told) read has within =
      let t = there (get told sound) has in
      (good_order (get told order) o read, (sound_good (get told sound) t.file t.is (within t.file t.is), tt))

  pub verify_does : (files : Option Files) (place : Option ℕ) → IsRead files order o → (Lacks files sound → ⊥)
      → ((file : List ℕ) → file_of files sound ≡ Some file → IsCompared file (wav o.journal o.blocks) place)
      → HasEffect (Verify order sound) files (comparison place)
  verify_does files place read has compared = (o, place, refl, known files read has compared)
    where
      known : (f : Option Files) → IsRead f order o → (Lacks f sound → ⊥)
          → ((file : List ℕ) → file_of f sound ≡ Some file → IsCompared file (wav o.journal o.blocks) place)
          → IfSome f (λ told. IsOrder (content told order) o × IsCompared (content told sound) (wav o.journal o.blocks) place)
      known None r h c = tt
      known (Some told) r h c =
          let t = there (get told sound) h in (
            order_in (get told order) o r,
            subst (λ (g : Option (List ℕ)).
                IsCompared (unwrap_or g []) (wav o.journal o.blocks) place) (sym t.is) (c t.file t.is),
          )

-- the report of a comparison
pub compared_ends : (place : Option ℕ) (status : ℕ) (before now : Snapshot) → now.reading ≡ before.reading → now.writing ≡ before.writing
    → now.files ≡ before.files
    → Puts (comparison place).status (comparison place).prints status before.written now.written before.faults now.faults
    → Finishes (comparison place) status before now
compared_ends None status before now reading writing files put = put_ends (comparison None) status before now reading writing
    (none_written before.files now.files files) put
compared_ends (Some place) status before now reading writing files put =
    put_ends (comparison (Some place)) status before now reading writing (none_written before.files now.files files) put
