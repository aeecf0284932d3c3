-- For private functions and proofs: why a command fails before it writes; the status and the line of each failure, and what it means for the file
-- that was read.
use Rattle.std.specs.Prelude.{◌≡◌, ◌⊎◌, ℕ, List, Option, IfSome}
use Rattle.std.specs.FinMap.{get}
use Rattle.outside.specs.Files.{Files, Lacks}
use Rattle.outside.specs.Faults.{Rose}
use Rattle.fault_lines.specs.Lines.{cannot_read, limit_file, limit_commands, out_of_memory}
use Rattle.tool_core.specs.declared.failure.Failure.{Failure}
use Rattle.tool_core.specs.declared.failure.Failure.TheVariants as failure
use Rattle.tool_core.specs.Verdicts.{Verdict, TooLarge, TooMany, Refused}
use Rattle.tool_core.specs.Inputs.{Kind, Input, IsVerdict, Reaches}
use Rattle.tool_core.specs.Lines.{refusal_line}

abbrev pub status_of : Failure → ℕ
status_of failure.Unread = 2
status_of failure.TooLarge = 6
status_of failure.TooMany = 6
status_of (failure.Refused why) = 4
status_of failure.Memory = 8

abbrev pub line_of : Failure → List ℕ → List ℕ
line_of failure.Unread name = cannot_read name
line_of failure.TooLarge name = limit_file
line_of failure.TooMany name = limit_commands
line_of (failure.Refused why) name = refusal_line why
line_of failure.Memory name = out_of_memory

-- What a failure means: that a file was not read, that it has some verdict, or that memory was wanting. Each cause below is this
-- table with three meanings put in.
abbrev pub Means : Failure → Type 0 → (Verdict → Type 0) → Type 0 → Type 0
Means failure.Unread unread has memory = unread
Means failure.TooLarge unread has memory = has TooLarge
Means failure.TooMany unread has memory = has TooMany
Means (failure.Refused why) unread has memory = has (Refused why)
Means failure.Memory unread has memory = memory

-- this holds, unless memory was wanting
abbrev pub UnlessMemory : Failure → Type 0 → Type 0 → Type 0
UnlessMemory why here memory = Means why here (λ it. here) memory

-- what a failure means for the bytes of a file
abbrev pub IsFault : Failure → Kind → Option (List ℕ) → Type 0
IsFault why kind file = Means why ⊥ (λ it. IsVerdict kind file it) (Unit {0})

-- why a file doesn't serve, with the count of reading faults before and after: a read failed, or the told files lack it; or no read
-- failed, and its bytes are at fault
abbrev pub IsReason : Failure → Kind → Option Files → List ℕ → ℕ → ℕ → Type 0
IsReason why kind files name before now =
    Means why (Rose before now ⊎ Lacks files name)
    (λ it. (now ≡ before) × IfSome files (λ told. IsVerdict kind (get told name) it))
    (now ≡ before)

-- the file of this name is the first that doesn't serve
pub record FailsAt (why : Failure) (inputs : List Input) (files : Option Files) (name : List ℕ) (before now : ℕ) : Type 0 where
  pub one : Input
  pub named : name ≡ one.name
  pub reached : Reaches inputs files one
  pub reason : IsReason why one.kind files one.name before now

-- Why a command fails: the first file that doesn't serve, and all before it are good; or memory was wanting.
abbrev pub Fails : Failure → List Input → Option Files → List ℕ → ℕ → ℕ → Type 0
Fails why inputs files name before now = UnlessMemory why (FailsAt why inputs files name before now) (now ≡ before)
