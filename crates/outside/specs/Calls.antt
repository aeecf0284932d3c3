-- Calls that are made to fail by their numbers.
use Rattle.std.specs.Prelude.{ℕ, List, IsTrue, Bool, ◌==◌}
use Rattle.std.specs.List.{list_any}
use Rattle.outside.specs.declared.failures.Failures.{Failures}
use Rattle.outside.specs.Faults.{one_more}

-- how many calls were made, and the numbers of those that are to fail; the first call has the number 0
pub record Calls : Type 0 where
  pub made : ℕ
  pub listed : List ℕ

-- the number is in the list
abbrev pub is_listed : List ℕ → ℕ → Bool
is_listed numbers n = list_any (λ listed. listed == n) numbers

-- the call that comes next is to fail
abbrev pub FailsNext : Calls → Type 0
FailsNext calls = IsTrue (is_listed calls.listed calls.made)

-- one more call was made
abbrev pub next_of : Calls → Calls
next_of calls = record calls { made = one_more calls.made }

abbrev pub calls_of : Failures → Calls
calls_of failures = record { made = failures.calls; listed = failures.numbers.items }
