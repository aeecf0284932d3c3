use Rattle.std.proofs.Common.{◌≤◌, ◌+◌, length}
use Rattle.script_read.specs.TextSoFar.{HasOrder, IsWithin}
use Rattle.script_read.proofs.lines.read_lines.Given as goal

abbrev pub invariant-loop-line : goal.invariant-loop-line
invariant-loop-line g l = record {
  order : HasOrder l.progress l.bounds.room;
  number : l.progress.number + length l.rest ≤ 536870914;
  within : IsWithin l.progress l.bounds.blocks l.rest l.text;
}

abbrev pub decreases-loop-line : goal.decreases-loop-line
decreases-loop-line g l = length l.rest
