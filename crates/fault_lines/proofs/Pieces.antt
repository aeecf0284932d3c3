-- Lines put in pieces.
use Rattle.std.proofs.Common.{◌≡◌, ◌⊎◌, inl, inr, ℕ, ◌+◌, List, ◌++◌, length, take, sym, ◌∙◌, ap, arith, length-append}
use Rattle.std.specs.Prelude.{Option, option_map, Result, Ok, Err, OnOk, OnErr}
use Rattle.std.proofs.lemmas.List.{take-append-le}
use Rattle.std.proofs.Math.Seq.{take-append_seam, take-append-add}
use Rattle.outside.specs.Files.{said, SaidSome}
use Rattle.outside.specs.Faults.{HasCause}
use Rattle.outside.proofs.Shelves.{then_said}
use Rattle.fault_lines.specs.Lines.{Says}

-- some of the second piece, after the whole first one, is some of both
pub some_after : (o mid now : Option (List ℕ)) (a b : List ℕ)
    → mid ≡ option_map (said a) o → (now ≡ mid) ⊎ SaidSome b mid now
    → (now ≡ o) ⊎ SaidSome (a ++ b) o now
some_after o mid now a b first (inl same) =
    inr (length a, omega (arith, length-append a b), same ∙ first ∙ ap (λ (l : List ℕ). option_map (said l) o) (sym (take-append_seam a b)))
some_after o mid now a b first (inr (count, fits, is)) =
    inr (
      length a + count,
      omega (arith, length-append a b),
      is ∙ ap (option_map (said (take count b))) first ∙ then_said o a (take count b)
          ∙ ap (λ (l : List ℕ). option_map (said l) o) (sym (take-append-add a b count)),
    )

-- some of the first piece is some of both
pub some_before : (o now : Option (List ℕ)) (a b : List ℕ)
    → (now ≡ o) ⊎ SaidSome a o now → (now ≡ o) ⊎ SaidSome (a ++ b) o now
some_before o now a b (inl same) = inl same
some_before o now a b (inr (count, fits, is)) =
    inr (count, omega (arith, length-append a b), is ∙ ap (λ (l : List ℕ). option_map (said l) o) (sym (take-append-le count a b fits)))

-- what a put of a whole line says, whether it failed or not
pub says : {D : Type 0} (r : Result (Unit {0}) D) (line : List ℕ) (before now : Option (List ℕ)) (faults_before faults_now : ℕ)
    → OnOk r (now ≡ option_map (said line) before) → OnErr r ((now ≡ before) ⊎ SaidSome line before now)
    → HasCause faults_before faults_now 0 0 ⊥ r
    → Says line before now faults_before faults_now
says (Ok x) line before now faults_before faults_now all some cause = inl (all, cause.kept)
says (Err e) line before now faults_before faults_now all some cause =
    elim cause.failed [ inl rose ↦ inr (some, cause.later, rose) | inr never ↦ absurd never ]
