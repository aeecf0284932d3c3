-- What comes of a script: commands and faults, in reading order.
use Rattle.std.specs.Prelude.{ℕ, nat_le, Bool, false, List, [], ◌∷◌, ◌++◌, Option, Some, None}
use Rattle.velocity_map.specs.declared.curve.Curve.{Curve}
use Rattle.command_set.specs.Message.{MessageOutcome, Yields, PassedOver, Overlong, Faulty, command_of}
use Rattle.script_plan.specs.Plan.{PlannedData, planned_at}
use Rattle.script_outcome.specs.declared.fault.Place.{Place}
use Rattle.script_outcome.specs.declared.fault.ScriptKind.{ScriptKind}
use Rattle.script_outcome.specs.declared.fault.ScriptKind.TheVariants as kind
use Rattle.midi_stream.specs.Ended.{EndedMessage, ended_message}

-- a command at its block, or a fault at its place
pub data Outcome : Type 0 where
  Gives : PlannedData → Outcome
  Fails : Place → ScriptKind → Outcome

-- what comes of a message
abbrev pub message_outcomes : Place → ℕ → MessageOutcome → List Outcome
message_outcomes at block (Yields command) = Gives (planned_at block command) ∷ []
message_outcomes at block PassedOver = []
message_outcomes at block (Overlong count) = Fails at kind.Long ∷ []
message_outcomes at block (Faulty fault) = Fails at (kind.Message fault) ∷ []

abbrev pub ended_outcomes : Place → ℕ → Curve → Option EndedMessage → List Outcome
ended_outcomes at block curve None = []
ended_outcomes at block curve (Some ended) = message_outcomes at block (command_of ended.message ended.bytes curve)

-- What comes of bytes after the stream before them. A message comes of its last byte; the place of a fault is one that the stream before
-- that byte tells.
unfoldable pub fed_outcomes : (List ℕ → Place) → ℕ → Curve → List ℕ → List ℕ → List Outcome
fed_outcomes place_of block curve before [] = []
fed_outcomes place_of block curve before (byte ∷ bytes) =
    ended_outcomes (place_of before) block curve (ended_message before byte) ++ fed_outcomes place_of block curve (before ++ byte ∷ []) bytes

-- a block is not one of the run's, where their number is known
abbrev pub is_late : Option ℕ → ℕ → Bool
is_late None block = false
is_late (Some blocks) block = nat_le blocks block
