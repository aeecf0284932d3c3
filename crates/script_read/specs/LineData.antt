-- For private functions and proofs: a line that was read, as plain data.
use Rattle.command_set.specs.Command.{IsInRange, content}
use Rattle.script_read.specs.declared.script_line.ScriptLine.{ScriptLine}
use Rattle.script_read.specs.declared.script_line.ScriptLine.TheVariants as line
use Rattle.script_read.specs.Lines.{ParsedLine, Maps, Orders, Feeds, Wrong}
use Rattle.script_read.specs.Lines as lines

abbrev pub line_data : ScriptLine → ParsedLine
line_data line.Blank = lines.Blank
line_data (line.Map curve) = Maps curve
line_data (line.Command block command) = Orders block (content command)
line_data (line.Bytes block bytes) = Feeds block bytes.items
line_data line.Wrong = Wrong

-- its command is in range
abbrev pub IsSound : ScriptLine → Type 0
IsSound line.Blank = Unit {0}
IsSound (line.Map curve) = Unit {0}
IsSound (line.Command block command) = IsInRange (content command)
IsSound (line.Bytes block bytes) = Unit {0}
IsSound line.Wrong = Unit {0}
