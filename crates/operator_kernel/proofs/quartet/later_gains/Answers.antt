use Rattle.std.proofs.Common.{arith}
use Rattle.operator_kernel.proofs.Fours.{four_same}
use Rattle.operator_kernel.proofs.Gains.{gain_wide_next, step_read}
use Rattle.operator_kernel.proofs.quartet.later_gains.Goals as goal

pub returns : goal.returns
returns c = λ j lt e.
    let l = c.requires.live.live in
    let h0 = (l 0 (omega arith)).gains in
    let h1 = (l 1 (omega arith)).gains in
    let h2 = (l 2 (omega arith)).gains in
    let h3 = (l 3 (omega arith)).gains in
    rw e (four_same
    (gain_wide_next _ j _ h0 lt (step_read _ _ h0 c.growth.ensures.value))
    (gain_wide_next _ j _ h1 lt (step_read _ _ h1 c.growth-2.ensures.value))
    (gain_wide_next _ j _ h2 lt (step_read _ _ h2 c.growth-3.ensures.value))
    (gain_wide_next _ j _ h3 lt (step_read _ _ h3 c.growth-4.ensures.value)))
