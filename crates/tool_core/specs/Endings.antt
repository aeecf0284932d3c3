-- For private functions and proofs: how a command ends, in two cases.
use Rattle.std.specs.Prelude.{◌≡◌, ◌⊎◌, ℕ, ◌<◌, List, length, Option, IfSome, IsSomeAnd, option_map}
use Rattle.std.specs.FinMap.{get}
use Rattle.outside.specs.Files.{Files, Lacks, said, SaidSome}
use Rattle.outside.specs.Faults.{Rose}
use Rattle.outside.specs.Snapshot.{Snapshot}
use Rattle.tool_core.specs.declared.failure.Failure.{Failure}
use Rattle.tool_core.specs.Refusals.{Wanted, refusal}
use Rattle.tool_core.specs.Words.{RequestData}
use Rattle.tool_core.specs.Effects.{Effect, HasEffect, reads, written}
use Rattle.tool_core.specs.Verdicts.{TooLarge, judged}
use Rattle.tool_core.specs.Failures.{Means, Fails, status_of, line_of}
use Rattle.tool_core.specs.Outcomes.{HasGood, FailsFile, FailsReport, SaysLine}

-- why a file of at most so many bytes was not read, with the count of reading faults before and after: of its bytes only their count is judged
abbrev pub IsReadFailure : Failure → ℕ → Option Files → List ℕ → ℕ → ℕ → Type 0
IsReadFailure why limit files name before now =
    Means why (Rose before now ⊎ Lacks files name)
    (λ it. (it ≡ TooLarge) × (now ≡ before) × IfSome files (λ told. IsSomeAnd (get told name) (λ file. limit < length file)))
    (now ≡ before)

-- the failure is one of the bytes that were read, or of memory
abbrev pub IsOfBytes : Failure → Type 0
IsOfBytes why = Means why ⊥ (λ it. Unit {0}) (Unit {0})

-- why MIDI bytes that were read don't serve
abbrev pub IsMidiFailure : Failure → Wanted → List ℕ → Type 0
IsMidiFailure why wanted file = Means why ⊥ (λ it. judged (refusal wanted file) ≡ it) (Unit {0})

-- a text was put, with this status; or the output failed, and a prefix of it was put
abbrev pub Puts : ℕ → List ℕ → ℕ → Option (List ℕ) → Option (List ℕ) → ℕ → ℕ → Type 0
Puts good text status before now faults_before faults_now =
    ((status ≡ good) × (now ≡ option_map (said text) before) × (faults_now ≡ faults_before))
    ⊎ ((status ≡ 3) × Rose faults_before faults_now × ((now ≡ before) ⊎ SaidSome text before now))

-- the command had this effect
pub record Completes (effect : Effect) (before now : Snapshot) : Type 0 where
  pub files : now.files ≡ option_map (written effect.writes) before.files
  pub writing : now.writing ≡ before.writing
  pub report : now.written ≡ option_map (said effect.prints) before.written
  pub faults : now.faults ≡ before.faults

-- no read failed; the command had this effect, or a write or the put of its text failed
pub record Finishes (effect : Effect) (status : ℕ) (before now : Snapshot) : Type 0 where
  pub reading : now.reading ≡ before.reading
  pub ends : ((status ≡ effect.status) × Completes effect before now) ⊎ ((status ≡ 3) × (FailsFile effect before now ⊎ FailsReport effect before now))

-- all files are good, and so the command goes on to its end
pub record Performs (request : RequestData) (status : ℕ) (before now : Snapshot) : Type 0 where
  pub good : HasGood request before.files
  pub effect : Effect
  pub does : HasEffect request before.files effect
  pub finishes : Finishes effect status before now

-- it failed before it wrote
pub record Refuses (request : RequestData) (status : ℕ) (before now : Snapshot) : Type 0 where
  pub why : Failure
  pub name : List ℕ
  pub fails : Fails why (reads request) before.files name before.reading now.reading
  pub status_is : status ≡ status_of why
  pub line : SaysLine (line_of why name) before now
  pub files : now.files ≡ before.files
  pub writing : now.writing ≡ before.writing

abbrev pub Ends : RequestData → ℕ → Snapshot → Snapshot → Type 0
Ends request status before now = Performs request status before now ⊎ Refuses request status before now
