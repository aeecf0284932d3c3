-- What a run comes to.
use Rattle.std.specs.Prelude.{◌≡◌, ◌⊎◌, ℕ, ◌-◌, ◌≤◌, ◌==◌, List, ◌++◌, length, Option, Some, IfSome, IsSomeAnd, option_map, if◌then◌else◌}
use Rattle.outside.specs.Files.{Files, SaidSome, said}
use Rattle.outside.specs.Faults.{Rose, FailedFirst}
use Rattle.outside.specs.Snapshot.{Snapshot}
use Rattle.fault_lines.specs.Lines.{Says, cannot_write}
use Rattle.command_set.specs.Entries.{LoggedData}
use Rattle.script_plan.specs.Plan.{PlannedData}
use Rattle.take_files.specs.Files.{order, wav}
use Rattle.take_files.specs.Orders.{IsOrdered}
use Rattle.turns.specs.Timed.{ArePlayed, IsTimed}
use Rattle.play_core.specs.declared.refusal.PlayRefusal.{PlayRefusal}
use Rattle.play_core.specs.Words.{RequestData}
use Rattle.turns.specs.Turns.{many_commands}
use Rattle.play_core.specs.Verdict.{Plays, verdict, blocks_of_run, places_of_run}
use Rattle.play_core.specs.Refused.{IsCaused, AgreesWith}
use Rattle.play_core.specs.Lines.{refusal_line, refusal_status, report}
use Rattle.play_core.specs.Files.{AreBegun, with_two}

-- nothing was played: no file was touched, and the line of the refusal was put
pub record IsRefused (a : RequestData) (before now : Snapshot) (status : ℕ) : Type 0 where
  pub why : PlayRefusal
  pub status_is : status ≡ refusal_status why
  pub files : now.files ≡ before.files
  pub writing : now.writing ≡ before.writing
  pub cause : IsCaused why a.blocks before.files a.scripts before.reading now.reading
  pub tells : IfSome before.files (λ told. AgreesWith why (verdict a told))
  pub line : Says (refusal_line why a.scripts) before.written now.written before.faults now.faults

-- the plans of all scripts, where the files are told
abbrev pub HavePlans : RequestData → Option Files → List (List PlannedData) → Type 0
HavePlans a files plans = (length plans ≡ length a.scripts) × IfSome files (λ told. verdict a told ≡ Plays plans)

-- the bytes of the sound of a journal, of as many blocks as the run has, and those of its order
abbrev pub sound_of : RequestData → List (List PlannedData) → List LoggedData → List ℕ
sound_of a plans journal = wav journal (blocks_of_run a.blocks plans)

abbrev pub order_of : RequestData → List (List PlannedData) → List LoggedData → List ℕ
order_of a plans journal = order journal (blocks_of_run a.blocks plans) (length plans)

-- the files with the two of a journal
abbrev pub played : RequestData → List (List PlannedData) → List LoggedData → Files → Files
played a plans journal files = with_two a.out (sound_of a plans journal) a.order (order_of a plans journal) files

-- how many commands were left
abbrev pub left_of : List (List PlannedData) → List LoggedData → ℕ
left_of plans journal = many_commands plans - length journal

-- the report of a run
abbrev pub report_of : RequestData → List (List PlannedData) → List LoggedData → List ℕ
report_of a plans journal = report (left_of plans journal) (blocks_of_run a.blocks plans) (length journal)

-- What is said where a write or the put of the report failed. Where a write failed, one of the two files is named that could not be written;
-- where none did, both files are whole, and of the report no more than a prefix was put.
abbrev pub SaysOfStop : RequestData → List (List PlannedData) → List LoggedData → Snapshot → Snapshot → Type 0
SaysOfStop a plans journal before now =
    (Rose before.writing now.writing × (Says (cannot_write a.out) before.written now.written before.faults now.faults
    ⊎ Says (cannot_write a.order) before.written now.written before.faults now.faults))
    ⊎ ((now.writing ≡ before.writing) × Rose before.faults now.faults × (now.files ≡ option_map (played a plans journal) before.files)
    × ((now.written ≡ before.written) ⊎ SaidSome (report_of a plans journal) before.written now.written))

-- a write or the put of the report failed: each of the two files is as before or begun, by one journal
pub record IsStoppedRun (a : RequestData) (before now : Snapshot) (status : ℕ) : Type 0 where
  pub plans : List (List PlannedData)
  pub journal : List LoggedData
  pub status_is : status ≡ 3
  pub planned : HavePlans a before.files plans
  pub ordered : IsOrdered journal (blocks_of_run a.blocks plans) (length plans)
  pub begun : ArePlayed journal plans
  pub reading : now.reading ≡ before.reading
  pub files : AreBegun before.files now.files a.out (sound_of a plans journal) a.order (order_of a plans journal)
  pub line : SaysOfStop a plans journal before now

-- all turns were played: both files are whole, and the report was added; 0 where no command is left, else 5
pub record IsDone (a : RequestData) (before now : Snapshot) (status : ℕ) : Type 0 where
  pub plans : List (List PlannedData)
  pub journal : List LoggedData
  pub status_is : status ≡ (if left_of plans journal == 0 then 0 else 5)
  pub planned : HavePlans a before.files plans
  pub ordered : IsOrdered journal (blocks_of_run a.blocks plans) (length plans)
  pub timed : IsTimed journal plans (places_of_run a.places plans)
  pub few : length journal ≤ many_commands plans
  pub files : now.files ≡ option_map (played a plans journal) before.files
  pub reading : now.reading ≡ before.reading
  pub writing : now.writing ≡ before.writing
  pub written : now.written ≡ option_map (said (report_of a plans journal)) before.written
  pub faults : now.faults ≡ before.faults

-- what a run comes to whose scripts all have a plan
abbrev pub IsPlayedRun : RequestData → Snapshot → Snapshot → ℕ → Type 0
IsPlayedRun a before now status = IsStoppedRun a before now status ⊎ IsDone a before now status

-- what a run comes to
abbrev pub IsRun : RequestData → Snapshot → Snapshot → ℕ → Type 0
IsRun a before now status = IsRefused a before now status ⊎ IsPlayedRun a before now status

-- the report was put, and the status is the run's; or the output failed, no more than a prefix of it was put, and the status is 3
abbrev pub HasReported : List ℕ → ℕ → Option (List ℕ) → Option (List ℕ) → ℕ → ℕ → ℕ → Type 0
HasReported line status before now faults_before faults_now result =
    ((result ≡ status) × (now ≡ option_map (said line) before) × (faults_now ≡ faults_before))
    ⊎ ((result ≡ 3) × Rose faults_before faults_now × ((now ≡ before) ⊎ SaidSome line before now))

-- what failed since comes after what had failed before
abbrev pub FailedLater : Option (List (List ℕ)) → Option (List (List ℕ)) → Type 0
FailedLater before now = IfSome now (λ names. (later : List (List ℕ)) × (option_map (λ old. old ++ later) before ≡ Some names))

-- The file that is named is the one of the two whose write failed first, where the shelf tells that; or it tells of none that failed.
abbrev pub NamesFailed : List ℕ → List ℕ → Option (List (List ℕ)) → Option (List (List ℕ))
    → Option (List ℕ) → Option (List ℕ) → ℕ → ℕ → Type 0
NamesFailed out order failed_before failed_now before now faults_before faults_now =
    (failed_now ≡ failed_before)
    ⊎ (FailedFirst out failed_before failed_now × Says (cannot_write out) before now faults_before faults_now)
    ⊎ (FailedFirst order failed_before failed_now × Says (cannot_write order) before now faults_before faults_now)
