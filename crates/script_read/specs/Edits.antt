-- What comes of the lines of an `edit 1` script: commands and faults, by the editing history before each line.
use Rattle.std.specs.Prelude.{ℕ, ◌+◌, nat_le, List, [], ◌∷◌, ◌++◌, length, slice_set, Option, Some, None, if◌then◌else◌}
use Rattle.voice_record.specs.Voice.{greatest_value, opening_voice}
use Rattle.command_set.specs.Command.{CommandData, SetsParameter, StoresVoice, LoadsVoice}
use Rattle.script_plan.specs.Plan.{planned_at}
use Rattle.editor.specs.History.{History, OneParameter, WholeVoice, acted, begun, redone, undone}
use Rattle.editor.specs.Names.{renamed}
use Rattle.script_outcome.specs.declared.fault.Place.{Place}
use Rattle.script_outcome.specs.declared.fault.Place.TheVariants as place
use Rattle.script_outcome.specs.declared.fault.ScriptKind.{ScriptKind}
use Rattle.script_outcome.specs.declared.fault.ScriptKind.TheVariants as kind
use Rattle.script_read.specs.EditLines.{EditRequestData, Sets, Undoes, Redoes, Renames, Loads, Puts, ParsedEdit, Passed, Requests, Bad}
use Rattle.script_outcome.specs.Outcomes.{Outcome, Gives, Fails}
use Rattle.script_read.specs.Outcomes.{time_fault, timed}

-- what an editor makes of a request: its history then, and a command; or why it refuses
pub data Answered : Type 0 where
  Becomes : History → CommandData → Answered
  Refuses : ScriptKind → Answered

-- an undo or a redo, where there is something to come back to
abbrev pub stepped : ScriptKind → Option (History × CommandData) → Answered
stepped why None = Refuses why
stepped why (Some found) = Becomes found.0 found.1

-- the voice put into a slot is no act
unfoldable pub answered : History → EditRequestData → Answered
answered h (Sets number value) =
    if nat_le value (greatest_value number)
    then Becomes (acted h (OneParameter number) (slice_set h.voice number value)) (SetsParameter number value)
    else Refuses kind.Value
answered h Undoes = stepped kind.Undo (undone h)
answered h Redoes = stepped kind.Redo (redone h)
answered h (Renames name) = Becomes (acted h WholeVoice (renamed h.voice name)) (LoadsVoice (renamed h.voice name))
answered h (Loads voice) = Becomes (acted h WholeVoice voice) (LoadsVoice voice)
answered h (Puts slot) = Becomes h (StoresVoice slot)

-- a refusal changes nothing
abbrev pub history_then : History → Answered → History
history_then h (Becomes next command) = next
history_then h (Refuses why) = h

abbrev pub history_with : History → ParsedEdit → History
history_with h Passed = h
history_with h (Requests block what) = history_then h (answered h what)
history_with h Bad = h

-- the history after some lines: that of all that they request
unfoldable pub history_after : History → List ParsedEdit → History
history_after h [] = h
history_after h (line ∷ later) = history_after (history_with h line) later

-- the editor begins with the opening voice, and can undo 100 acts
abbrev pub opened : History
opened = begun opening_voice 100

-- the block of the last line that has one
abbrev pub block_then : ℕ → ParsedEdit → ℕ
block_then last Passed = last
block_then last (Requests block what) = block
block_then last Bad = last

unfoldable pub edit_block : ℕ → List ParsedEdit → ℕ
edit_block last [] = last
edit_block last (line ∷ later) = edit_block (block_then last line) later

-- the place of a line after some others; the first line of the script tells its kind, and is not among them
abbrev pub edit_place : List ParsedEdit → Place
edit_place before = place.Line (length before + 2)

-- what comes of an answer of the editor
abbrev pub answer_outcomes : Place → ℕ → Answered → List Outcome
answer_outcomes at block (Becomes next command) = Gives (planned_at block command) ∷ []
answer_outcomes at block (Refuses why) = Fails at why ∷ []

-- what comes of a line after those before it
unfoldable pub edit_outcomes : Option ℕ → List ParsedEdit → ParsedEdit → List Outcome
edit_outcomes blocks before Passed = []
edit_outcomes blocks before (Requests block what) =
    timed (time_fault blocks (edit_block 0 before) block) (edit_place before)
    (answer_outcomes (edit_place before) block (answered (history_after opened before) what))
edit_outcomes blocks before Bad = Fails (edit_place before) kind.Line ∷ []

-- what comes of lines after those before them
unfoldable pub edits_after : Option ℕ → List ParsedEdit → List ParsedEdit → List Outcome
edits_after blocks before [] = []
edits_after blocks before (line ∷ later) = edit_outcomes blocks before line ++ edits_after blocks (before ++ line ∷ []) later

-- what comes of the lines after the first one
abbrev pub edit_text_outcomes : Option ℕ → List ParsedEdit → List Outcome
edit_text_outcomes blocks lines = edits_after blocks [] lines
