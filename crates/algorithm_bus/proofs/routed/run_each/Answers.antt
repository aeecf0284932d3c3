use Rattle.std.proofs.Common.{◌≡◌, ◌∙◌, ◌-◌, ◌≤◌, ℕ, ap, sym, subst, Some, get_or, arith}
use Rattle.operator_kernel.specs.declared.OpBlock.{OpBlock}
use Rattle.operator_kernel.specs.Operator.{HasGains, feedback_sample}
use Rattle.algorithm_bus.specs.Signals.{BlockInput}
use Rattle.algorithm_bus.specs.Buses.{IsBus, op_of, no_operator}
use Rattle.algorithm_bus.proofs.Routing.{routed_none, routed_all}
use Rattle.algorithm_bus.proofs.routed.run_each.Goals as goal

pub loop-k-init : goal.loop-k-init
loop-k-init c = λ p ea eo hf. routed_none p _ _ _ c.told-first c.told-second c.told-out

pub route-requires-clause-gains : goal.route-requires-clause-gains
route-requires-clause-gains c =
    let k = c.loop-k.k in
    let lt = c.loop-k-test.true in
    let e : 6 - k - 1 ≡ 5 - k = omega arith in
    subst (λ i. HasGains (get_or c.args.ops.now i no_operator)) e (c.requires.gains (6 - k) (omega arith) (omega arith))

pub loop-k-preserved : goal.loop-k-preserved
loop-k-preserved c = λ p ea eo hf.
    let k = c.loop-k.k in
    let e : 6 - k - 1 ≡ 5 - k = omega arith in
    let op : ◌≡◌ {A = OpBlock} (op_of c.args.ops.now (6 - k)) (get_or c.args.ops.now (5 - k) no_operator) = ap (λ i. get_or c.args.ops.now i no_operator) e in
    let at : p.op (6 - k) ≡ get_or c.args.ops.now (5 - k) no_operator = ap (λ f. f (6 - k)) eo ∙ op in
    c.route.ensures p ea at (λ h.
    let P : OpBlock → Type 0 = λ o. IsBus (feedback_sample o p.feedback p.feedback_state) c.args.fed_back.now in
    subst P op (hf (6 - k) h)) (c.loop-k.invariant p ea eo hf)

pub returns : goal.returns
returns c = λ p ea eo hf.
    let e : c.loop-k.k ≡ 6 = omega arith in
    routed_all p c.loop-k.k _ _ _ (let la = c.requires.algorithm in omega (arith, ea, la)) e (c.loop-k.invariant p ea eo hf)
