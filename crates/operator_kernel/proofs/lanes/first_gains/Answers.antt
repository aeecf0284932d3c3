use Rattle.std.proofs.Common.{◌≡◌, arith}
use Rattle.operator_kernel.specs.Operator.{gain_step, gain_at}
use Rattle.operator_kernel.proofs.Fours.{four_same}
use Rattle.operator_kernel.proofs.Gains.{gain_lane_at, gain_lane_from, gain_wide}
use Rattle.operator_kernel.proofs.lanes.first_gains.Goals as goal

pub returns : goal.returns
returns c =
    let op = c.args.op.now in
    let h = c.requires in
    let e : c.gain.result ≡ gain_at op 0 = c.gain.ensures.value in
    let f : c.growth.result ≡ gain_step op = c.growth.ensures.value in
    rw (e, f) (four_same
    (gain_wide op 0 _ h (omega arith) (gain_lane_at op 0 h (omega arith)))
    (gain_wide op 1 _ h (omega arith) (gain_lane_from op 0 1 h (omega arith)))
    (gain_wide op 2 _ h (omega arith) (gain_lane_from op 0 2 h (omega arith)))
    (gain_wide op 3 _ h (omega arith) (gain_lane_from op 0 3 h (omega arith))))
