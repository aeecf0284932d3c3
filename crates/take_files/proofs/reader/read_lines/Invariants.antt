use Rattle.std.proofs.Common.{◌≡◌, ◌++◌, length}
use Rattle.take_files.specs.Chunks.{line_feeds}
use Rattle.take_files.specs.OrderSoFar.{AreRead, lines_read}
use Rattle.take_files.proofs.reader.read_lines.Given as goal

abbrev pub invariant-loop-end : goal.invariant-loop-end
invariant-loop-end l = record {
  listing : AreRead l.listing;
  line : line_feeds l.line.items ≡ 0;
  text : (lines_read l.fn.listing ++ l.fn.line.items) ++ l.fn.bytes ≡ (lines_read l.listing ++ l.line.items) ++ l.rest;
}

abbrev pub decreases-loop-end : goal.decreases-loop-end
decreases-loop-end l = length l.rest
