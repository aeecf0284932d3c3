use Rattle.std.proofs.Common.{pos, ◌*ℤ◌, ◌≡◌, ◌+◌, ◌∙◌, arith}
use Rattle.operator_kernel.specs.Operator.{gain_step}
use Rattle.operator_kernel.proofs.Fours.{four_same}
use Rattle.operator_kernel.proofs.Gains.{gain_lane_later, steps_read}
use Rattle.operator_kernel.proofs.lanes.later_gains.Goals as goal

pub returns : goal.returns
returns c =
    let op = c.args.op.now in
    let j = c.args.j in
    let h = c.requires.gains in
    let f : c.from.result ≡ pos 4 *ℤ gain_step op = c.from.ensures ∙ steps_read op _ h c.growth.ensures.value in
    rw c.requires.lanes (four_same
    (gain_lane_later op j (j + 4) _ h (omega arith) (omega arith) f)
    (gain_lane_later op (j + 1) (j + 4 + 1) _ h (omega arith) (omega arith) f)
    (gain_lane_later op (j + 2) (j + 4 + 2) _ h (omega arith) (omega arith) f)
    (gain_lane_later op (j + 3) (j + 4 + 3) _ h (omega arith) (omega arith) f))
