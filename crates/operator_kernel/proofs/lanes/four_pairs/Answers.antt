use Rattle.std.proofs.Common.{map, to_z, w64, ap, ◌∙◌}
use Rattle.operator_kernel.proofs.Fours.{four_same}
use Rattle.operator_kernel.proofs.Halves.{four_of_eight}
use Rattle.operator_kernel.proofs.LaneSteps.{pair_bits, pair_packed}
use Rattle.operator_kernel.proofs.lanes.four_pairs.Goals as goal

pub returns : goal.returns
returns c =
    let p = c.requires.indices in
    let b0 = pair_bits c.args.p0 p.0 in
    let b1 = pair_bits c.args.p1 p.1 in
    let b2 = pair_bits c.args.p2 p.2 in
    let b3 = pair_bits c.args.p3 p.3 in
    rw (c.pair_of.ensures, c.pair_of-2.ensures, c.pair_of-3.ensures, c.pair_of-4.ensures)
    (ap (map (to_z w64)) (four_of_eight _ _ _ _ _ _ _ _ b0.0 b0.1 b1.0 b1.1 b2.0 b2.1 b3.0 b3.1)
    ∙ four_same (pair_packed _ p.0) (pair_packed _ p.1) (pair_packed _ p.2) (pair_packed _ p.3))
