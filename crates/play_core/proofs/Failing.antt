-- The names of the writes that failed, and the one that is told.
use Rattle.std.proofs.Common.{◌≡◌, ◌⊎◌, inl, inr, ℕ, List, [], ◌∷◌, ◌++◌, refl, sym, ◌∙◌, ap, append-nil, append_assoc, subst}
use Rattle.std.specs.Prelude.{Option, Some, None, option_map, Result, Ok, Err, OnOk, OnErr}
use Rattle.outside.specs.Faults.{HasFailed, FailedFirst}
use Rattle.fault_lines.specs.Lines.{Says, cannot_write}
use Rattle.turns.specs.declared.target.Target.{Target}
use Rattle.turns.specs.declared.target.Target.TheVariants as target
use Rattle.turns.specs.Written.{name_of}
use Rattle.play_core.specs.Run.{FailedLater, NamesFailed}

later_none : (o : Option (List (List ℕ))) → FailedLater o o
later_none None = tt
later_none (Some names) = ([], ap (λ (l : List (List ℕ)). Some l) (append-nil names))

later_one : (name : List ℕ) (before now : Option (List (List ℕ))) → HasFailed name before now → FailedLater before now
later_one name before None h = tt
later_one name before (Some names) h = (name ∷ [], h)

-- a write that failed or didn't
pub later_write : {A E : Type 0} (r : Result A E) (name : List ℕ) (before now : Option (List (List ℕ)))
    → OnOk r (now ≡ before) → OnErr r (HasFailed name before now) → FailedLater before now
later_write (Ok x) name before now kept failed = subst (λ (o : Option (List (List ℕ))). FailedLater before o) (sym kept) (later_none before)
later_write (Err e) name before now kept failed = later_one name before now failed

pub later_more : (a b c : Option (List (List ℕ))) → FailedLater a b → FailedLater b c → FailedLater a c
later_more a b None h i = tt
later_more a None (Some names) h i = absurd (let never = i.1 in cc)
later_more None (Some some) (Some names) h i = absurd (let never = h.1 in cc)
later_more (Some old) (Some some) (Some names) h i = (
  h.0 ++ i.0,
  ap (λ (l : List (List ℕ)). Some l) (sym (append_assoc old h.0 i.0))
      ∙ ap (option_map (λ (l : List (List ℕ)). l ++ i.0)) h.1 ∙ i.1,
)

pub first_of : (name : List ℕ) (a b c : Option (List (List ℕ))) → HasFailed name a b → FailedLater b c → FailedFirst name a c
first_of name a b None h i = tt
first_of name a None (Some names) h i = absurd (let never = i.1 in cc)
first_of name None (Some some) (Some names) h i = absurd (cc)
first_of name (Some old) (Some some) (Some names) h i = (
  i.0,
  ap (λ (l : List (List ℕ)). Some l) (sym (append_assoc old (name ∷ []) i.0))
      ∙ ap (option_map (λ (l : List (List ℕ)). l ++ i.0)) h ∙ i.1,
)

pub names_failed : (which : Target) (out order : List ℕ) (a b c : Option (List (List ℕ))) (before now : Option (List ℕ)) (faults_before faults_now : ℕ)
    → HasFailed (name_of which out order) a b → FailedLater b c
    → Says (cannot_write (name_of which out order)) before now faults_before faults_now
    → NamesFailed out order a c before now faults_before faults_now
names_failed target.Sound out order a b c before now faults_before faults_now failed later says = inr (inl (first_of out a b c failed later, says))
names_failed target.Order out order a b c before now faults_before faults_now failed later says = inr (inr (first_of order a b c failed later, says))

pub says_one : (which : Target) (out order : List ℕ) (before now : Option (List ℕ)) (faults_before faults_now : ℕ)
    → Says (cannot_write (name_of which out order)) before now faults_before faults_now
    → Says (cannot_write out) before now faults_before faults_now ⊎ Says (cannot_write order) before now faults_before faults_now
says_one target.Sound out order before now faults_before faults_now says = inl says
says_one target.Order out order before now faults_before faults_now says = inr says
