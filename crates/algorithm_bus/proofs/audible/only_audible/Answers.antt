use Rattle.std.proofs.Common.{ℕ, ◌≡◌, ◌+◌, ◌-◌, ◌≤◌, length, length-set, subst, arith, get_or}
use Rattle.operator_kernel.specs.Operator.{HasGains}
use Rattle.algorithm_bus.specs.Buses.{no_operator}
use Rattle.algorithm_bus.proofs.Inaudible.{muted_none, muted_next, gains_none, gains_next, gains_all, few_output, few_fed_back}
use Rattle.algorithm_bus.proofs.audible.only_audible.Goals as goal

pub kept_or_muted-requires : goal.kept_or_muted-requires
kept_or_muted-requires c =
    let k = c.loop-k.k in
    let e : k + 1 - 1 ≡ k = omega arith in
    subst (λ i. HasGains (get_or c.args.ops.now i no_operator)) e (c.requires.gains (k + 1) (omega arith) (omega arith))

pub loop-k-init : goal.loop-k-init
loop-k-init c = record { len = c.told-ops; muted = muted_none _ _ _; gains = gains_none _ }

pub loop-k-preserved : goal.loop-k-preserved
loop-k-preserved c =
    let v = c.loop-k.invariant in
    let k = c.loop-k.k in
    record {
      len = simp length-set v.len;
      muted = muted_next k _ _ _ _ v.len c.loop-k-test.true v.muted c.kept_or_muted.ensures.value;
      gains = gains_next k _ _ v.len c.loop-k-test.true v.gains c.kept_or_muted.ensures.gains;
    }

pub returns-clause-gains : goal.returns-clause-gains
returns-clause-gains c = gains_all c.loop-k.k _ (omega arith) c.loop-k.invariant.gains

pub returns-clause-output : goal.returns-clause-output
returns-clause-output c = few_output c.args.algorithm c.args.ops.now _ _ c.loop-k.k (omega arith) c.audible_operators-kept.ensures c.loop-k.invariant.muted

pub returns-clause-fed_back : goal.returns-clause-fed_back
returns-clause-fed_back c = few_fed_back c.args.algorithm c.args.ops.now _ _ c.loop-k.k c.requires.algorithm (omega arith) c.audible_operators-kept.ensures
    c.loop-k.invariant.muted
