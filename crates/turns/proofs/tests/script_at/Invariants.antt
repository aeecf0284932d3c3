use Rattle.std.proofs.Common.{◌+◌}
use Rattle.lateness.specs.Late.{AllBelow}
use Rattle.script_plan.specs.Plan.{due_blocks}
use Rattle.turns.proofs.tests.script_at.Given as goal

abbrev pub invariant-loop-due : goal.invariant-loop-due
invariant-loop-due l = AllBelow (l.last + 1) (due_blocks l.script)
