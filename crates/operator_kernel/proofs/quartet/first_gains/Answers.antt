use Rattle.std.proofs.Common.{arith}
use Rattle.operator_kernel.proofs.Fours.{four_same}
use Rattle.operator_kernel.proofs.Gains.{gain_wide, gain_read_32}
use Rattle.operator_kernel.proofs.quartet.first_gains.Goals as goal

pub returns : goal.returns
returns c =
    let l = c.requires.live.live in
    let h0 = (l 0 (omega arith)).gains in
    let h1 = (l 1 (omega arith)).gains in
    let h2 = (l 2 (omega arith)).gains in
    let h3 = (l 3 (omega arith)).gains in
    four_same
    (gain_wide _ 0 _ h0 (omega arith) (gain_read_32 _ 0 _ h0 (omega arith) c.gain.ensures.value))
    (gain_wide _ 0 _ h1 (omega arith) (gain_read_32 _ 0 _ h1 (omega arith) c.gain-2.ensures.value))
    (gain_wide _ 0 _ h2 (omega arith) (gain_read_32 _ 0 _ h2 (omega arith) c.gain-3.ensures.value))
    (gain_wide _ 0 _ h3 (omega arith) (gain_read_32 _ 0 _ h3 (omega arith) c.gain-4.ensures.value))
