-- What follows from what a failure means.
use Rattle.std.proofs.Common.{◌≡◌, ◌⊎◌, ℕ, ◌<◌, List, length, sym, subst}
use Rattle.std.specs.Prelude.{Option, Some, None, IfSome, IsSomeAnd}
use Rattle.std.specs.FinMap.{get}
use Rattle.outside.specs.Files.{Files, Lacks}
use Rattle.outside.specs.Faults.{Rose}
use Rattle.tool_core.specs.declared.failure.Failure.{Failure}
use Rattle.tool_core.specs.declared.failure.Failure.TheVariants as failure
use Rattle.tool_core.specs.Verdicts.{Verdict, TooLarge, TooMany, Refused}
use Rattle.tool_core.specs.Inputs.{Kind, IsVerdict}
use Rattle.tool_core.specs.Failures.{Means, UnlessMemory, IsReason}
use Rattle.tool_core.specs.Endings.{IsReadFailure}

-- each meaning may be put in the place of one that it follows from
pub means : (why : Failure) (A B : Type 0) (J K : Verdict → Type 0) (M N : Type 0) → (A → B) → ((it : Verdict) → J it → K it) → (M → N)
    → Means why A J M → Means why B K N
means failure.Unread A B J K M N unread has memory is = unread is
means failure.TooLarge A B J K M N unread has memory is = has TooLarge is
means failure.TooMany A B J K M N unread has memory is = has TooMany is
means (failure.Refused why) A B J K M N unread has memory is = has (Refused why) is
means failure.Memory A B J K M N unread has memory is = memory is

pub unless : (why : Failure) (A B M : Type 0) → (A → B) → UnlessMemory why A M → UnlessMemory why B M
unless why A B M here is = means why A B (λ it. A) (λ it. B) M M here (λ it. here) (λ m. m) is

-- what follows from the reason holds, unless memory was wanting
pub unless_reason : (why : Failure) (kind : Kind) (files : Option Files) (name : List ℕ) (before now : ℕ) (A : Type 0)
    → (IsReason why kind files name before now → A) → IsReason why kind files name before now → UnlessMemory why A (now ≡ before)
unless_reason failure.Unread kind files name before now A here is = here is
unless_reason failure.TooLarge kind files name before now A here is = here is
unless_reason failure.TooMany kind files name before now A here is = here is
unless_reason (failure.Refused why) kind files name before now A here is = here is
unless_reason failure.Memory kind files name before now A here is = is

large : (kind : Kind) (limit : ℕ) (files : Option Files) (name : List ℕ) → ((file : List ℕ) → limit < length file → IsVerdict kind (Some file) TooLarge)
    → IfSome files (λ told. IsSomeAnd (get told name) (λ file. limit < length file)) → IfSome files (λ told. IsVerdict kind (get told name) TooLarge)
large kind limit None name past is = tt
large kind limit (Some told) name past is = one (get told name) is
  where
    one : (file : Option (List ℕ)) → IsSomeAnd file (λ bytes. limit < length bytes) → IsVerdict kind file TooLarge
    one None h = absurd h
    one (Some bytes) h = past bytes h

-- a file that was not read is at fault, where its limit is that of its kind
pub limit_reason : (why : Failure) (kind : Kind) (limit : ℕ) (files : Option Files) (name : List ℕ) (before now : ℕ)
    → ((file : List ℕ) → limit < length file → IsVerdict kind (Some file) TooLarge)
    → IsReadFailure why limit files name before now → IsReason why kind files name before now
limit_reason why kind limit files name before now past is =
    means why (Rose before now ⊎ Lacks files name) (Rose before now ⊎ Lacks files name)
    (λ it. (it ≡ TooLarge) × (now ≡ before) × IfSome files (λ told. IsSomeAnd (get told name) (λ file. limit < length file)))
    (λ it. (now ≡ before) × IfSome files (λ told. IsVerdict kind (get told name) it))
    (now ≡ before) (now ≡ before) (λ r. r)
    (λ it r. (r.1, subst (λ (v : Verdict). IfSome files (λ told. IsVerdict kind (get told name) v)) (sym (r.0)) (large kind limit files name past (r.2))))
    (λ r. r) is
