-- Commands with the blocks that they are due at, in order.
use Rattle.std.specs.Prelude.{ℕ, ◌<◌, ◌≤◌, Option, None, Some, List, [], ◌∷◌, map}
use Rattle.command_set.specs.Command.{CommandData, content, IsInRange}
use Rattle.script_plan.specs.declared.script.Planned.{Planned}

-- a command and the block that it is due at
pub record PlannedData : Type 0 where
  pub due : ℕ
  pub command : CommandData

abbrev pub planned_at : ℕ → CommandData → PlannedData
planned_at due command = record { due = due; command = command }

abbrev pub planned_data : Planned → PlannedData
planned_data c = planned_at c.due (content c.command)

abbrev pub plan_data : List Planned → List PlannedData
plan_data commands = map planned_data commands

-- the blocks that commands are due at
abbrev pub due_blocks : List PlannedData → List ℕ
due_blocks plan = map (λ (c : PlannedData). c.due) plan

-- none of the blocks is below a number or below the one before, each is a number of 32 bits, and each command is in range
abbrev pub IsPlanFrom : ℕ → List PlannedData → Type 0
IsPlanFrom least [] = Unit {0}
IsPlanFrom least (c ∷ cs) = (least ≤ c.due) × (c.due < 4294967296) × IsInRange c.command × IsPlanFrom c.due cs

-- the blocks don't fall, and each command is in range
abbrev pub IsPlan : List PlannedData → Type 0
IsPlan plan = IsPlanFrom 0 plan

-- the block of the first command
abbrev pub first_due : List PlannedData → Option ℕ
first_due [] = None
first_due (c ∷ cs) = Some c.due

-- the block of the last command, or a number where there is none
abbrev pub last_due_or : ℕ → List PlannedData → ℕ
last_due_or block [] = block
last_due_or block (c ∷ cs) = last_due_or c.due cs

-- the block of the last command, or 0 where there is none
abbrev pub last_due : List PlannedData → ℕ
last_due plan = last_due_or 0 plan
