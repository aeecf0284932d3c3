-- What a command leaves, by its status.
use Rattle.std.specs.Prelude.{◌≡◌, ◌≢◌, ◌⊎◌, ℕ, List, [], ◌∷◌, ◌++◌, Option, IfSome, option_map}
use Rattle.std.specs.FinMap.{get}
use Rattle.outside.specs.Files.{Files, Lacks, IsFileBegun, file_of, said, SaidSome}
use Rattle.outside.specs.Faults.{Rose}
use Rattle.outside.specs.Snapshot.{Snapshot}
use Rattle.fault_lines.specs.Lines.{Says, cannot_read, cannot_write, limit_file, limit_commands, out_of_memory}
use Rattle.fault_lines.specs.Statuses.{IsOneOf}
use Rattle.tool_core.specs.declared.refusal.Refusal.{Refusal}
use Rattle.tool_core.specs.Verdicts.{Verdict, Lacking, TooLarge, TooMany, Refused, Good}
use Rattle.tool_core.specs.Words.{RequestData}
use Rattle.tool_core.specs.Inputs.{Input, AreGood, Decides, IsJudged, Reaches}
use Rattle.tool_core.specs.Effects.{Effect, HasEffect, Output, reads, written}
use Rattle.tool_core.specs.Lines.{refusal_line}

-- the line was put on the output, or that failed and a prefix of it was
abbrev pub SaysLine : List ℕ → Snapshot → Snapshot → Type 0
SaysLine line before now = Says line before.written now.written before.faults now.faults

-- all files that the command reads are good
abbrev pub HasGood : RequestData → Option Files → Type 0
HasGood request files = IfSome files (λ told. AreGood (reads request) told)

-- the command went to its end
abbrev pub WasDone : ℕ → Type 0
WasDone status = (status ≡ 0) ⊎ (status ≡ 7)

-- 0 and 7: The command had its effect: the files that it writes are whole, all others are as before, and just its text was added.
pub record IsDone (request : RequestData) (status : ℕ) (before now : Snapshot) : Type 0 where
  pub good : HasGood request before.files
  pub effect : Effect
  pub does : HasEffect request before.files effect
  pub status_is : status ≡ effect.status
  pub files : now.files ≡ option_map (written effect.writes) before.files
  pub report : now.written ≡ option_map (said effect.prints) before.written

-- 2: A read of this file failed and was counted, or the told files lack it; and all files before it are good.
pub record IsUnread (request : RequestData) (before now : Snapshot) : Type 0 where
  pub one : Input
  pub reached : Reaches (reads request) before.files one
  pub cause : Rose before.reading now.reading ⊎ Lacks before.files one.name
  pub line : SaysLine (cannot_read one.name) before now

-- a file is as before or a prefix of its whole bytes, and all others are as before
pub record BeginsOut (before : Files) (now : Option Files) (name text : List ℕ) : Type 0 where
  pub begun : IsFileBegun (get before name) (file_of now name) text
  pub others : (other : List ℕ) → other ≢ name → file_of now other ≡ get before other

-- 3, of a file: A write of it failed and was counted. Those written before it are whole, it is as before or begun, and all others are as before.
pub record FailsFile (effect : Effect) (before now : Snapshot) : Type 0 where
  pub file : Output
  pub earlier : List Output
  pub later : List Output
  pub place : effect.writes ≡ earlier ++ file ∷ later
  pub cause : Rose before.writing now.writing
  pub begun : IfSome before.files (λ told. BeginsOut (written earlier told) now.files file.name file.text)
  pub line : SaysLine (cannot_write file.name) before now

-- 3, of the report: The output failed and it was counted. All files are written, and no more than a prefix of the text was put.
pub record FailsReport (effect : Effect) (before now : Snapshot) : Type 0 where
  pub cause : Rose before.faults now.faults
  pub writing : now.writing ≡ before.writing
  pub files : now.files ≡ option_map (written effect.writes) before.files
  pub prefix : (now.written ≡ before.written) ⊎ SaidSome effect.prints before.written now.written

pub record IsUnwritten (request : RequestData) (before now : Snapshot) : Type 0 where
  pub good : HasGood request before.files
  pub effect : Effect
  pub does : HasEffect request before.files effect
  pub failed : FailsFile effect before now ⊎ FailsReport effect before now

-- 4: This file is refused, and all files before it are good.
pub record IsRefused (request : RequestData) (before now : Snapshot) : Type 0 where
  pub one : Input
  pub reached : Reaches (reads request) before.files one
  pub why : Refusal
  pub refused : IfSome before.files (λ told. IsJudged one told (Refused why))
  pub line : SaysLine (refusal_line why) before now

-- 6: It has too many bytes, or too many entries, and all files before it are good.
pub record IsPastLimit (request : RequestData) (before now : Snapshot) : Type 0 where
  pub one : Input
  pub reached : Reaches (reads request) before.files one
  pub limit : (IfSome before.files (λ told. IsJudged one told TooLarge) × SaysLine limit_file before now)
      ⊎ (IfSome before.files (λ told. IsJudged one told TooMany) × SaysLine limit_commands before now)

-- 8: Memory was wanting.
abbrev pub IsOutOfMemory : Snapshot → Snapshot → Type 0
IsOutOfMemory before now = SaysLine out_of_memory before now

-- the statuses of a verdict, want of memory among them
abbrev pub statuses_of : Verdict → List ℕ
statuses_of Lacking = 2 ∷ 8 ∷ []
statuses_of TooLarge = 6 ∷ 8 ∷ []
statuses_of TooMany = 6 ∷ 8 ∷ []
statuses_of (Refused why) = 4 ∷ 8 ∷ []
statuses_of Good = 0 ∷ 3 ∷ 7 ∷ 8 ∷ []

-- where no read failed, the status is one of the verdict that decides
abbrev pub AnswersBy : RequestData → ℕ → Snapshot → Snapshot → Type 0
AnswersBy request status before now =
    IfSome before.files (λ told. (it : Verdict) → Decides (reads request) told it → ¬ (Rose before.reading now.reading)
    → IsOneOf status (statuses_of it))

-- where every file is good and no count of faults rises, the effect is done, unless memory runs out
abbrev pub IsComplete : RequestData → ℕ → Snapshot → Snapshot → Type 0
IsComplete request status before now =
    IfSome before.files (λ told. AreGood (reads request) told → ¬ (Rose before.reading now.reading) → ¬ (Rose before.writing now.writing)
    → ¬ (Rose before.faults now.faults) → IsOneOf status (0 ∷ 7 ∷ 8 ∷ []))
