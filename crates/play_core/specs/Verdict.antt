-- What the scripts of a run come to. They are judged one after the other: each is read, its bytes are added to those before, and then its
-- commands are read.
use Rattle.std.specs.Prelude.{ℕ, ◌+◌, ◌-◌, max, nat_lt, List, [], ◌∷◌, ◌++◌, length, Option, Some, None, if◌then◌else◌}
use Rattle.std.specs.FinMap.{get}
use Rattle.outside.specs.Files.{Files}
use Rattle.script_plan.specs.Plan.{PlannedData, last_due}
use Rattle.script_outcome.specs.declared.fault.Place.{Place}
use Rattle.script_outcome.specs.declared.fault.ScriptKind.{ScriptKind}
use Rattle.script_outcome.specs.Plan.{Plan, Commands, Refused, TooMany}
use Rattle.script_read.specs.Plan.{plan}
use Rattle.turns.specs.Turns.{many_commands}
use Rattle.play_core.specs.declared.totals.Totals.{Totals}
use Rattle.instrument.specs.Limits.{block_limit}
use Rattle.play_core.specs.Limits.{script_limit, scripts_limit, command_limit}
use Rattle.play_core.specs.Words.{RequestData}

-- What decides of a run: there is no file of this name; a script or all together have too many bytes; the script with this number has a
-- fault; there are too many commands, or too many blocks; or each script has a plan.
pub data Verdict : Type 0 where
  Lacking : List ℕ → Verdict
  LongFile : Verdict
  LongScripts : Verdict
  Faulty : ℕ → Place → ScriptKind → Verdict
  ManyCommands : Verdict
  ManyBlocks : Verdict
  Plays : List (List PlannedData) → Verdict

-- no script so far, no byte and no command
abbrev pub nothing : Totals
nothing = record { scripts = 0; bytes = 0; commands = 0 }

-- with one more script
abbrev pub with_script : Totals → ℕ → ℕ → Totals
with_script t bytes commands = record { scripts = t.scripts + 1; bytes = t.bytes + bytes; commands = t.commands + commands }

-- what decides where this is the next script's plan, and this decides of the scripts after it
abbrev pub with_plan : List PlannedData → Verdict → Verdict
with_plan one (Plays plans) = Plays (one ∷ plans)
with_plan one (Lacking name) = Lacking name
with_plan one LongFile = LongFile
with_plan one LongScripts = LongScripts
with_plan one (Faulty number place what) = Faulty number place what
with_plan one ManyCommands = ManyCommands
with_plan one ManyBlocks = ManyBlocks

-- what the next script comes to, whose plan this is; after it come others
abbrev pub of_plan : ℕ → Plan → (List PlannedData → Verdict) → Verdict
of_plan number (Commands one) after = with_plan one (after one)
of_plan number (Refused place what) after = Faulty number place what
of_plan number TooMany after = ManyCommands

-- what the next script comes to, which has these bytes
abbrev pub of_text : Option ℕ → Totals → List ℕ → (List PlannedData → Verdict) → Verdict
of_text blocks t text after =
    if nat_lt script_limit (length text) then LongFile
    else if nat_lt scripts_limit (t.bytes + length text) then LongScripts
    else of_plan t.scripts (plan text blocks (command_limit - t.commands)) after

-- what the next script comes to, which is this file, if there is one
abbrev pub of_file : Option ℕ → Totals → List ℕ → Option (List ℕ) → (List ℕ → List PlannedData → Verdict) → Verdict
of_file blocks t name None after = Lacking name
of_file blocks t name (Some text) after = of_text blocks t text (after text)

-- what the named scripts come to, after those that were counted
unfoldable pub of_scripts : Files → Option ℕ → Totals → List (List ℕ) → Verdict
of_scripts told blocks t [] = Plays []
of_scripts told blocks t (name ∷ names) =
    of_file blocks t name (get told name) (λ text one. of_scripts told blocks (with_script t (length text) (length one)) names)

-- the greatest block that a command is due at, or 0 where there is no command
abbrev pub greatest_due : List (List PlannedData) → ℕ
greatest_due [] = 0
greatest_due (one ∷ plans) = max (last_due one) (greatest_due plans)

-- how many blocks are rendered: as many as asked for, or 201 more than the greatest block that a command is due at
abbrev pub blocks_of_run : Option ℕ → List (List PlannedData) → ℕ
blocks_of_run (Some blocks) plans = blocks
blocks_of_run None plans = greatest_due plans + 201

-- how many places the line has: as many as asked for, or one for each command, and one at least
abbrev pub places_of_run : Option ℕ → List (List PlannedData) → ℕ
places_of_run (Some places) plans = places
places_of_run None plans = max 1 (many_commands plans)

-- more blocks than a run may have
abbrev pub of_blocks : Option ℕ → Verdict → Verdict
of_blocks blocks (Plays plans) = if nat_lt block_limit (blocks_of_run blocks plans) then ManyBlocks else Plays plans
of_blocks blocks (Lacking name) = Lacking name
of_blocks blocks LongFile = LongFile
of_blocks blocks LongScripts = LongScripts
of_blocks blocks (Faulty number place what) = Faulty number place what
of_blocks blocks ManyCommands = ManyCommands
of_blocks blocks ManyBlocks = ManyBlocks

-- what decides of a run with these files
unfoldable pub verdict : RequestData → Files → Verdict
verdict a told = of_blocks a.blocks (of_scripts told a.blocks nothing a.scripts)

-- each script has a plan
abbrev pub IsPlayed : Verdict → Type 0
IsPlayed (Plays plans) = Unit {0}
IsPlayed (Lacking name) = ⊥
IsPlayed LongFile = ⊥
IsPlayed LongScripts = ⊥
IsPlayed (Faulty number place what) = ⊥
IsPlayed ManyCommands = ⊥
IsPlayed ManyBlocks = ⊥

-- the plans of all scripts, where each has one
abbrev pub plans_in : Verdict → List (List PlannedData)
plans_in (Plays plans) = plans
plans_in (Lacking name) = []
plans_in LongFile = []
plans_in LongScripts = []
plans_in (Faulty number place what) = []
plans_in ManyCommands = []
plans_in ManyBlocks = []
