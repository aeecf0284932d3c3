-- Counts of faults and of reads, and when a call may answer that it failed.
use Rattle.std.specs.Prelude.{◌≡◌, ◌⊎◌, ℕ, ◌+◌, ◌-◌, ◌^◌, ◌≤◌, min, List, [], ◌∷◌, ◌++◌, Option, Some, option_map, IfSome, Result, OnOk, OnErr}

-- a count of 64 bits with one more; at its end it stays
abbrev pub one_more : ℕ → ℕ
one_more count = min (count + 1) (2 ^ 64 - 1)

-- the same with so many more
abbrev pub more_by : ℕ → ℕ → ℕ
more_by count more = min (count + more) (2 ^ 64 - 1)

-- a count rose by one at least; at its end it stays
abbrev pub Rose : ℕ → ℕ → Type 0
Rose before now = one_more before ≤ now

-- What a call does to the count that is its own, and to the other one: it fails only where its own rose, or for the other cause.
pub record HasCause {T E : Type 0} (before now other_before other_now : ℕ) (cause : Type 0) (result : Result T E) : Type 0 where
  pub later : before ≤ now
  pub other : other_now ≡ other_before
  pub kept : OnOk result (now ≡ before)
  pub failed : OnErr result (Rose before now ⊎ cause)

-- Of the names whose writes failed, in order, this one is the first that came. A shelf that tells them now told them before, too.
abbrev pub FailedFirst : List ℕ → Option (List (List ℕ)) → Option (List (List ℕ)) → Type 0
FailedFirst name before now = IfSome now (λ names. (later : List (List ℕ)) × (option_map (λ old. old ++ name ∷ later) before ≡ Some names))

-- this one is all that came
abbrev pub HasFailed : List ℕ → Option (List (List ℕ)) → Option (List (List ℕ)) → Type 0
HasFailed name before now = IfSome now (λ names. option_map (λ old. old ++ name ∷ []) before ≡ Some names)
