use Rattle.std.proofs.Common.{sym, subst, Some}
use Rattle.operator_kernel.specs.Operator.{IsMixed, samples_of}
use Rattle.operator_kernel.proofs.lanes.run_with.Goals as goal

pub returns-then-add : goal.returns-then-add
returns-then-add c = subst (λ t. IsMixed t (samples_of c.args.op.now (Some c.args.input.now)) c.args.bus.now c.run_at.new.bus) (sym c.if-add.true)
    c.run_at.ensures

pub returns-else-add : goal.returns-else-add
returns-else-add c = subst (λ t. IsMixed t (samples_of c.args.op.now (Some c.args.input.now)) c.args.bus.now c.run_at-else-add.new.bus) (sym c.if-add.false)
    c.run_at-else-add.ensures
