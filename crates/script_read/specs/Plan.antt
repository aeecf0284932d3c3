-- What comes of a script of any kind, and its plan.
use Rattle.std.specs.Prelude.{ℕ, ◌==◌, Bool, false, List, [], ◌∷◌, codes, bytes_eq, Option, if◌then◌else◌}
use Rattle.std.specs.List.{starts_with}
use Rattle.std.specs.Prelude.{nat_eq}
use Rattle.script_outcome.specs.declared.fault.Place.TheVariants as place
use Rattle.script_outcome.specs.declared.fault.ScriptKind.{ScriptKind}
use Rattle.script_outcome.specs.declared.fault.ScriptKind.TheVariants as kind
use Rattle.midi_file.specs.File.{midi_outcomes}
use Rattle.script_read.specs.Words.{lines_of}
use Rattle.script_read.specs.Lines.{parsed_lines}
use Rattle.script_read.specs.EditLines.{parsed_edits}
use Rattle.script_read.specs.Edits.{edit_text_outcomes}
use Rattle.script_outcome.specs.Outcomes.{Outcome, Fails}
use Rattle.script_outcome.specs.Plan.{Plan, plan_of}
use Rattle.script_read.specs.Outcomes.{stream_outcomes, text_outcomes}

-- a script that is refused at its first line
abbrev pub at_first : ScriptKind → List Outcome
at_first why = Fails (place.Line 1) why ∷ []

-- a text tells its kind by its first line
abbrev pub lines_outcomes : Option ℕ → List (List ℕ) → List Outcome
lines_outcomes blocks [] = at_first kind.Kind
lines_outcomes blocks (first ∷ lines) =
    if bytes_eq first (codes "midi 1") then text_outcomes blocks (parsed_lines lines)
    else if bytes_eq first (codes "edit 1") then edit_text_outcomes blocks (parsed_edits lines)
    else at_first kind.Kind

-- a stream begins with F0
abbrev pub is_stream : List ℕ → Bool
is_stream [] = false
is_stream (byte ∷ bytes) = byte == 240

-- a MIDI file begins with the name of its header
abbrev pub is_midi_file : List ℕ → Bool
is_midi_file bytes = starts_with nat_eq bytes (codes "MThd")

-- what comes of a script, by its kind
unfoldable pub outcomes : Option ℕ → List ℕ → List Outcome
outcomes blocks bytes =
    if is_stream bytes then stream_outcomes bytes
    else if is_midi_file bytes then midi_outcomes blocks bytes
    else lines_outcomes blocks (lines_of bytes)

-- the plan of a script, with the number of blocks where it is known, and the room for commands
unfoldable pub plan : List ℕ → Option ℕ → ℕ → Plan
plan bytes blocks room = plan_of room (outcomes blocks bytes)
