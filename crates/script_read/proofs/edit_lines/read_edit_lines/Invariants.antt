use Rattle.std.proofs.Common.{◌≤◌, ◌+◌, length}
use Rattle.script_read.specs.EditsSoFar.{HasEditOrder, IsWithinEdits}
use Rattle.script_read.proofs.edit_lines.read_edit_lines.Given as goal

abbrev pub invariant-loop-line : goal.invariant-loop-line
invariant-loop-line l = record {
  order : HasEditOrder l.editing l.bounds.room;
  number : l.editing.number + length l.rest ≤ 536870914;
  within : IsWithinEdits l.editing l.bounds.blocks l.rest l.text;
}

abbrev pub decreases-loop-line : goal.decreases-loop-line
decreases-loop-line l = length l.rest
