-- For private functions and proofs: what a reader of a script knows in the middle of it.
use Rattle.std.specs.Prelude.{ℕ, ◌≡◌, ◌+◌, ◌≤◌, List, [], ◌++◌, length, Option}
use Rattle.midi_stream.specs.FedStream.{Reads}
use Rattle.velocity_map.specs.declared.curve.Curve.TheVariants.{Linear}
use Rattle.script_plan.specs.Plan.{last_due}
use Rattle.script_read.specs.declared.progress.Progress.{Progress}
use Rattle.script_read.specs.Lines.{ParsedLine, parsed_lines}
use Rattle.script_read.specs.Outcomes.{block_after, curve_after, fed_line, outcomes_after, stream_of}
use Rattle.script_read.specs.Words.{lines_of}
use Rattle.script_outcome.specs.ReaderAnswer.{all_given}

-- the reader of a text stands after these lines, all of which are good
pub record IsAfter (p : Progress) (blocks : Option ℕ) (lines : List ParsedLine) : Type 0 where
  pub reads : Reads p.feed.reader (stream_of lines)
  pub curve : p.curve ≡ curve_after Linear lines
  pub least : p.least ≡ block_after 0 lines
  pub number : p.number ≡ length lines + 2
  pub fed : p.fed ≡ fed_line 0 2 lines
  pub given : outcomes_after blocks [] lines ≡ all_given p.feed.script

-- it has room for so many commands, and the last one is due at the block of the lines or before
pub record HasOrder (p : Progress) (room : ℕ) : Type 0 where
  pub few : length p.feed.script ≤ room
  pub due : last_due p.feed.script ≤ p.least

-- it stands within a text, of which this is left
pub record IsWithin (p : Progress) (blocks : Option ℕ) (rest text : List ℕ) : Type 0 where
  pub lines : List ParsedLine
  pub split : lines ++ parsed_lines (lines_of rest) ≡ parsed_lines (lines_of text)
  pub after : IsAfter p blocks lines
