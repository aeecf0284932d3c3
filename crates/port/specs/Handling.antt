-- For private functions and proofs: what comes of one message at an end of a line.
use Rattle.std.specs.Prelude.{ℕ, ◌≡◌, ◌+◌, ◌≤◌, List, [], ◌∷◌, ◌++◌, length, Option, Some, None}
use Rattle.midi_stream.specs.declared.message.MidiMessage.{MidiMessage}
use Rattle.velocity_map.specs.declared.curve.Curve.{Curve}
use Rattle.command_set.specs.Message.{MessageOutcome}
use Rattle.command_queue.specs.Ends.{SendView}
use Rattle.port.specs.declared.kept.Kept.{Kept}
use Rattle.port.specs.declared.kept.Kept.TheVariants as kept
use Rattle.port.specs.declared.fed.Fed.{Fed}
use Rattle.port.specs.Feeding.{Handles}
use Rattle.port.specs.Keeping.{kept_outcomes, KeepsAt}
use Rattle.port.specs.Stopping.{FullOnly, refusals_after}

-- what comes of a message was done or is kept
pub record IsDoneOrKept (curve : Curve) (bytes : List ℕ) (outcome : MessageOutcome) (keeps : Option Kept) (old new : SendView) (fed : Fed)
    : Type 0 where
  pub now : List MessageOutcome
  pub splits : outcome ∷ [] ≡ now ++ kept_outcomes curve bytes keeps
  pub handles : Handles now old new fed
  pub stops : KeepsAt fed.stop keeps

-- a message that is kept is this one
abbrev pub KeepsThis : Option Kept → MidiMessage → Type 0
KeepsThis None message = Unit {0}
KeepsThis (Some (kept.Command command)) message = Unit {0}
KeepsThis (Some (kept.Message held)) message = held ≡ message

-- no message is kept
abbrev pub KeepsNoMessage : Option Kept → Type 0
KeepsNoMessage None = Unit {0}
KeepsNoMessage (Some (kept.Command command)) = Unit {0}
KeepsNoMessage (Some (kept.Message held)) = ⊥

-- So many bytes were used, at most one message had its outcome, and the end is of its line and number. It stopped at a full line only where
-- that was met.
pub record OneMore (old new : SendView) (used : ℕ) (fed : Fed) : Type 0 where
  pub line : new.line ≡ old.line
  pub number : new.number ≡ old.number
  pub count : length new.list ≡ length old.list + fed.sent
  pub used_is : fed.used ≡ used
  pub few : fed.sent + fed.passed_over + fed.refused ≤ 1
  pub refusals : new.refusals ≡ refusals_after fed.stop old.refusals
  pub full : FullOnly fed.stop new
