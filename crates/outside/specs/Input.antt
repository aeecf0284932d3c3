-- The bytes of an input, and what a read takes of them.
use Rattle.std.specs.Prelude.{◌≡◌, ℕ, List, [], ◌++◌, drop, Option, Some, None, IfSome}
use Rattle.outside.specs.declared.input.MemInput.{MemInput}
use Rattle.outside.specs.declared.input.StdIn.{StdIn}
use Rattle.outside.specs.Calls.{Calls, calls_of}

-- these bytes come first, and then what is left
abbrev pub before_rest : List ℕ → List ℕ → List ℕ
before_rest bytes rest = bytes ++ rest

-- no byte is left, where the input tells
abbrev pub HasEnded : Option (List ℕ) → Type 0
HasEnded left = IfSome left (λ bytes. bytes ≡ [])

-- what an input in memory shows: the bytes that are left, its count of faults, and its calls
abbrev pub kept_bytes : MemInput → Option (List ℕ)
kept_bytes input = Some (drop input.at input.bytes.items)

abbrev pub kept_faults : MemInput → ℕ
kept_faults input = input.faults

abbrev pub kept_calls : MemInput → Calls
kept_calls input = calls_of input.failures

-- what comes on the standard input is not told
abbrev pub stdin_bytes : {R : Type 0} → StdIn R → Option (List ℕ)
stdin_bytes input = None

abbrev pub stdin_faults : {R : Type 0} → StdIn R → ℕ
stdin_faults input = input.faults
