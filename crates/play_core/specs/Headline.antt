-- What the status says of the files and of the output.
use Rattle.std.specs.Prelude.{◌≡◌, ◌⊎◌, ℕ, ◌+◌, ◌<◌, ◌≤◌, List, [], ◌∷◌, ◌++◌, length, Option, Some, IfSome, IsSomeAnd, slice_index_or}
use Rattle.outside.specs.Files.{Files, file_of}
use Rattle.fault_lines.specs.Lines.{limit_file, limit_commands}
use Rattle.fault_lines.specs.Statuses.{IsOneOf}
use Rattle.command_set.specs.Entries.{LoggedData, entries_of, sent_by}
use Rattle.script_plan.specs.Plan.{PlannedData, due_blocks}
use Rattle.take_files.specs.Orders.{OrderData, IsOrder}
use Rattle.players.specs.Players.{entries}
use Rattle.turns.specs.Turns.{blocks_of, plan_of, many_commands}
use Rattle.play_core.specs.Words.{RequestData, requested_by}
use Rattle.play_core.specs.Verdict.{Verdict, Lacking, LongFile, LongScripts, Faulty, ManyCommands, ManyBlocks, Plays, verdict, plans_in, places_of_run}
use Rattle.play_core.specs.Lines.{limit_scripts, limit_blocks}

-- the words ask for this
abbrev pub Asks : List (List ℕ) → (RequestData → Type 0) → Type 0
Asks words P = IfSome (requested_by words) P

-- the words ask for this, and the files are told
abbrev pub Told : List (List ℕ) → Option Files → (RequestData → Files → Type 0) → Type 0
Told words files P = IfSome (requested_by words) (λ request. IfSome files (λ told. P request told))

-- all turns were played
abbrev pub WasPlayed : ℕ → Type 0
WasPlayed status = (status ≡ 0) ⊎ (status ≡ 5)

-- where all turns were played over told files: this holds of what was asked for and of the plans of the scripts' bytes as they were at entry
abbrev pub Played : List (List ℕ) → ℕ → Option Files → (RequestData → List (List PlannedData) → Type 0) → Type 0
Played words status files P = WasPlayed status → Told words files (λ request told. P request (plans_in (verdict request told)))

-- the named file is the order that says this
abbrev pub Lists : Option Files → List ℕ → OrderData → Type 0
Lists files name order = IsSomeAnd (file_of files name) (λ text. IsOrder text order)

-- the same of the journal, the blocks and the scripts that the order file lists
abbrev pub PlayedAs : List (List ℕ) → ℕ → Option Files → Option Files → (RequestData → List (List PlannedData) → OrderData → Type 0) → Type 0
PlayedAs words status files now P =
    Played words status files (λ request plans. (order : OrderData) → Lists now request.order order → P request plans order)

-- the journal has each command of each script exactly once, in the script's order, numbered from 0 on, with the block that it was due at
abbrev pub HasAll : List LoggedData → List (List PlannedData) → Type 0
HasAll journal plans = (k : ℕ) → k < length plans → sent_by k (entries_of journal) ≡ entries k 0 (plan_of plans k)

-- of some script the journal has fewer commands than there are
abbrev pub LacksSome : List LoggedData → List (List PlannedData) → Type 0
LacksSome journal plans = (k : ℕ) × (k < length plans) × (length (sent_by k (entries_of journal)) < length (plan_of plans k))

-- each command of each script is logged at its due block
abbrev pub ArePrompt : List LoggedData → List (List PlannedData) → Type 0
ArePrompt journal plans = (k : ℕ) → k < length plans → blocks_of k journal ≡ due_blocks (plan_of plans k)

-- the journal of one script, numbered from seq on, each command at its due block
abbrev pub journal_alone : ℕ → List PlannedData → List LoggedData
journal_alone seq [] = []
journal_alone seq (c ∷ cs) =
    record { block = c.due; entry = record { script = 0; seq = seq; sent_at = c.due; command = c.command } } ∷ journal_alone (seq + 1) cs

-- a limit that was passed
abbrev pub IsLimit : Verdict → Type 0
IsLimit (Plays plans) = ⊥
IsLimit (Lacking name) = ⊥
IsLimit LongFile = Unit {0}
IsLimit LongScripts = Unit {0}
IsLimit (Faulty number place what) = ⊥
IsLimit ManyCommands = Unit {0}
IsLimit ManyBlocks = Unit {0}

-- its line
abbrev pub limit_line : Verdict → List ℕ
limit_line (Plays plans) = []
limit_line (Lacking name) = []
limit_line LongFile = limit_file
limit_line LongScripts = limit_scripts
limit_line (Faulty number place what) = []
limit_line ManyCommands = limit_commands
limit_line ManyBlocks = limit_blocks

-- the statuses of what decides, where no read fails; want of memory may come first
abbrev pub Answers : Verdict → ℕ → Type 0
Answers (Plays plans) status = IsOneOf status (0 ∷ 3 ∷ 5 ∷ 8 ∷ [])
Answers (Lacking name) status = IsOneOf status (2 ∷ 8 ∷ [])
Answers LongFile status = IsOneOf status (6 ∷ 8 ∷ [])
Answers LongScripts status = IsOneOf status (6 ∷ 8 ∷ [])
Answers (Faulty number place what) status = IsOneOf status (4 ∷ 8 ∷ [])
Answers ManyCommands status = IsOneOf status (6 ∷ 8 ∷ [])
Answers ManyBlocks status = IsOneOf status (6 ∷ 8 ∷ [])

-- where all is right and nothing fails: all commands are played, where the line has a place for each, and else some may be left; unless
-- memory runs out
abbrev pub IsComplete : RequestData → Verdict → ℕ → Type 0
IsComplete request said status =
    (plans : List (List PlannedData)) → said ≡ Plays plans
    → IsOneOf status (0 ∷ 5 ∷ 8 ∷ []) × (many_commands plans ≤ places_of_run request.places plans → IsOneOf status (0 ∷ 8 ∷ []))
