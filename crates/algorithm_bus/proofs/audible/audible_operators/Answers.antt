use Rattle.std.proofs.Common.{◌≡◌, ◌+◌, ◌-◌, length-set, refl, subst, arith, get_or}
use Rattle.operator_kernel.specs.declared.OpBlock.{OpBlock}
use Rattle.algorithm_bus.specs.Buses.{op_of, no_operator}
use Rattle.algorithm_bus.specs.Audible.{AreClosed, IsCovered}
use Rattle.algorithm_bus.proofs.Inaudible.{closed_none, closed_next, covered_op}
use Rattle.algorithm_bus.proofs.audible.audible_operators.Goals as goal

pub loop-k-init : goal.loop-k-init
loop-k-init c = record { len = refl; closed = closed_none _ _ _ }

pub loop-k-preserved : goal.loop-k-preserved
loop-k-preserved c =
    let v = c.loop-k.invariant in
    let k = c.loop-k.k in
    let t = c.is_audible.result in
    record {
      len = simp length-set v.len;
      closed = closed_next c.args.algorithm c.args.ops.now k _ t c.requires c.loop-k-test.true v.len v.closed
          (λ e. covered_op t c.args.ops.now k (c.is_audible.ensures.carrier e))
          (λ to a b e q. covered_op t c.args.ops.now k (c.is_audible.ensures.modulator to a b e q))
          (c.is_audible.ensures.fed_back);
    }

pub returns : goal.returns
returns c =
    let e : c.loop-k.k ≡ 6 = omega arith in
    subst (λ n. AreClosed c.args.algorithm c.args.ops.now n c.loop-k.kept) e c.loop-k.invariant.closed
