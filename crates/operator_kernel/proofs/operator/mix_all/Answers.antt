use Rattle.std.proofs.Common.{◌∙◌, pos, get_or, SFits, w32, arith, rules}
use Rattle.std.proofs.lemmas.Int.{to_z-of_z}
use Rattle.operator_kernel.proofs.Buses.{IsMixedUpTo-none, IsMixedUpTo-next, IsMixedUpTo-all}
use Rattle.operator_kernel.proofs.operator.mix_all.Goals as goal

pub loop-j-init : goal.loop-j-init
loop-j-init c = IsMixedUpTo-none _ (λ j. get_or c.args.samples.now j (pos 0)) _ c.told-bus

pub loop-j-preserved : goal.loop-j-preserved
loop-j-preserved c =
    let j = c.loop-j.j in
    let f1 : SFits w32 c.mix.result = record { sfits = c.mix.type_inv } in
    let f3 : SFits w32 (get_or c.loop-j.bus j (pos 0)) = search rules in
    let f4 : SFits w32 (get_or c.args.samples.now j (pos 0)) = search rules in
    let m = simp to_z-of_z at c.mix.ensures in
    let r = c.loop-j.invariant.rest j (omega arith) in
    simp to_z-of_z (IsMixedUpTo-next j _ (λ j. get_or c.args.samples.now j (pos 0)) _ _ _ c.loop-j-test.true c.loop-j.invariant (m ∙ rw r))

pub returns : goal.returns
returns c = IsMixedUpTo-all _ _ (λ j. get_or c.args.samples.now j (pos 0)) _ _ (omega arith) c.loop-j.invariant
