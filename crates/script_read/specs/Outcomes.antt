-- What comes of the lines of a text script, and of the bytes of a stream: commands and faults, in reading order.
use Rattle.std.specs.Prelude.{ℕ, ◌+◌, nat_lt, List, [], ◌∷◌, ◌++◌, length, Option, Some, None, if◌then◌else◌}
use Rattle.midi_stream.specs.Messages.{is_unfinished}
use Rattle.velocity_map.specs.declared.curve.Curve.{Curve}
use Rattle.velocity_map.specs.declared.curve.Curve.TheVariants.{Linear}
use Rattle.velocity_map.specs.Curve.{curve_value}
use Rattle.command_set.specs.Command.{CommandData, StartsNote, EndsNote, Bends, Controls, PicksProgram, SetsParameter, StoresVoice}
use Rattle.command_set.specs.Command.{LoadsVoice, LoadsCartridge}
use Rattle.script_plan.specs.Plan.{planned_at}
use Rattle.script_outcome.specs.declared.fault.Place.{Place}
use Rattle.script_outcome.specs.declared.fault.Place.TheVariants as place
use Rattle.script_outcome.specs.declared.fault.ScriptKind.{ScriptKind}
use Rattle.script_outcome.specs.declared.fault.ScriptKind.TheVariants as kind
use Rattle.script_read.specs.Lines.{ParsedLine, Blank, Maps, Orders, Feeds, Wrong}
use Rattle.script_outcome.specs.Stream.{begun_at}
use Rattle.script_outcome.specs.Outcomes.{Outcome, Gives, Fails, fed_outcomes, is_late}

-- ---- text

-- the curve that is in force after some lines: that of the last one that sets it
unfoldable pub curve_after : Curve → List ParsedLine → Curve
curve_after curve [] = curve
curve_after curve (Blank ∷ later) = curve_after curve later
curve_after curve (Maps next ∷ later) = curve_after next later
curve_after curve (Orders block command ∷ later) = curve_after curve later
curve_after curve (Feeds block bytes ∷ later) = curve_after curve later
curve_after curve (Wrong ∷ later) = curve_after curve later

-- the block of the last line that has one
unfoldable pub block_after : ℕ → List ParsedLine → ℕ
block_after last [] = last
block_after last (Blank ∷ later) = block_after last later
block_after last (Maps next ∷ later) = block_after last later
block_after last (Orders block command ∷ later) = block_after block later
block_after last (Feeds block bytes ∷ later) = block_after block later
block_after last (Wrong ∷ later) = block_after last later

-- the bytes of all `bytes` lines, one stream
unfoldable pub stream_of : List ParsedLine → List ℕ
stream_of [] = []
stream_of (Blank ∷ later) = stream_of later
stream_of (Maps next ∷ later) = stream_of later
stream_of (Orders block command ∷ later) = stream_of later
stream_of (Feeds block bytes ∷ later) = bytes ++ stream_of later
stream_of (Wrong ∷ later) = stream_of later

-- the number of the last `bytes` line, the first of the lines having this number
unfoldable pub fed_line : ℕ → ℕ → List ParsedLine → ℕ
fed_line last number [] = last
fed_line last number (Blank ∷ later) = fed_line last (number + 1) later
fed_line last number (Maps next ∷ later) = fed_line last (number + 1) later
fed_line last number (Orders block command ∷ later) = fed_line last (number + 1) later
fed_line last number (Feeds block bytes ∷ later) = fed_line number (number + 1) later
fed_line last number (Wrong ∷ later) = fed_line last (number + 1) later

-- a note-on with its velocity on a curve; any other command
abbrev pub curved : Curve → CommandData → CommandData
curved curve (StartsNote channel key velocity) = StartsNote channel key (curve_value curve velocity)
curved curve (EndsNote channel key) = EndsNote channel key
curved curve (Bends channel value) = Bends channel value
curved curve (Controls channel number value) = Controls channel number value
curved curve (PicksProgram channel number) = PicksProgram channel number
curved curve (SetsParameter number value) = SetsParameter number value
curved curve (StoresVoice slot) = StoresVoice slot
curved curve (LoadsVoice voice) = LoadsVoice voice
curved curve (LoadsCartridge voices) = LoadsCartridge voices

-- what is wrong with a line's block: it is below the block of a line before, or not one of the run's
abbrev pub time_fault : Option ℕ → ℕ → ℕ → Option ScriptKind
time_fault blocks least block = if nat_lt block least then Some kind.Falls else if is_late blocks block then Some kind.Late else None

-- what comes of a line with a block, where nothing is wrong with that
abbrev pub timed : Option ScriptKind → Place → List Outcome → List Outcome
timed None at outcomes = outcomes
timed (Some why) at outcomes = Fails at why ∷ []

-- the place of a line after some others; the first line of a text tells its kind, and is not among them
abbrev pub line_after : List ParsedLine → Place
line_after before = place.Line (length before + 2)

-- what comes of a line after those before it
unfoldable pub line_outcomes : Option ℕ → List ParsedLine → ParsedLine → List Outcome
line_outcomes blocks before Blank = []
line_outcomes blocks before (Maps curve) = []
line_outcomes blocks before (Orders block command) =
    timed (time_fault blocks (block_after 0 before) block) (line_after before)
    (Gives (planned_at block (curved (curve_after Linear before) command)) ∷ [])
line_outcomes blocks before (Feeds block bytes) =
    timed (time_fault blocks (block_after 0 before) block) (line_after before)
    (fed_outcomes (λ stream. line_after before) block (curve_after Linear before) (stream_of before) bytes)
line_outcomes blocks before Wrong = Fails (line_after before) kind.Line ∷ []

-- what comes of lines after those before them
unfoldable pub outcomes_after : Option ℕ → List ParsedLine → List ParsedLine → List Outcome
outcomes_after blocks before [] = []
outcomes_after blocks before (line ∷ later) = line_outcomes blocks before line ++ outcomes_after blocks (before ++ line ∷ []) later

-- a text that ends within a message is cut at its last `bytes` line
abbrev pub text_end : List ParsedLine → List Outcome
text_end lines = if is_unfinished (stream_of lines) then Fails (place.Line (fed_line 0 2 lines)) kind.Cut ∷ [] else []

-- what comes of the lines after the first one
unfoldable pub text_outcomes : Option ℕ → List ParsedLine → List Outcome
text_outcomes blocks lines = outcomes_after blocks [] lines ++ text_end lines

-- ---- streams

-- a stream that ends within a message is cut where that begins
abbrev pub stream_end : List ℕ → List Outcome
stream_end bytes = if is_unfinished bytes then Fails (place.Byte (begun_at bytes)) kind.Cut ∷ [] else []

-- what comes of a stream: all at block 0, on the linear curve, and faults where their messages begin
unfoldable pub stream_outcomes : List ℕ → List Outcome
stream_outcomes bytes = fed_outcomes (λ before. place.Byte (begun_at before)) 0 Linear [] bytes ++ stream_end bytes
