-- The plan of a script: its commands with their blocks, or its first fault.
use Rattle.std.specs.Prelude.{ℕ, nat_lt, List, [], ◌∷◌, length, if◌then◌else◌}
use Rattle.script_plan.specs.Plan.{PlannedData}
use Rattle.script_outcome.specs.declared.fault.Place.{Place}
use Rattle.script_outcome.specs.declared.fault.ScriptKind.{ScriptKind}
use Rattle.script_outcome.specs.Outcomes.{Outcome, Gives, Fails}

-- what a script says: its commands in order; or its first fault; or more commands before that than there is room for
pub data Plan : Type 0 where
  Commands : List PlannedData → Plan
  Refused : Place → ScriptKind → Plan
  TooMany : Plan

-- the commands before the first fault
abbrev pub given : List Outcome → List PlannedData
given [] = []
given (Gives command ∷ later) = command ∷ given later
given (Fails at why ∷ later) = []

-- the first fault, or these commands
abbrev pub verdict : List PlannedData → List Outcome → Plan
verdict commands [] = Commands commands
verdict commands (Gives command ∷ later) = verdict commands later
verdict commands (Fails at why ∷ later) = Refused at why

-- the plan by all that comes of a script, in reading order
unfoldable pub plan_of : ℕ → List Outcome → Plan
plan_of room outcomes = if nat_lt room (length (given outcomes)) then TooMany else verdict (given outcomes) outcomes
