use Rattle.std.proofs.Common.{List, ◌+◌, sym, subst, arith}
use Rattle.lateness.specs.Late.{AllBelow}
use Rattle.script_plan.specs.Plan.{PlannedData, due_blocks}
use Rattle.players.proofs.Turns.{due_push}
use Rattle.turns.proofs.tests.script_at.Goals as goal

pub loop-due-preserved : goal.loop-due-preserved
loop-due-preserved c =
    subst (λ (plan : List PlannedData). AllBelow (c.args.last + 1) (due_blocks plan)) (sym c.in_ok-push.ensures.ok)
    (due_push c.args.last c.loop-due.script _ c.loop-due.invariant (omega (arith, c.if-due-last.false)))
