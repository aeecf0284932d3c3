use Rattle.std.proofs.Common.{ℕ, pos, get_or, ◌<◌, ◌≤◌, ◌^◌, unsigned_abs, SFits, w32, refl, arith}
use Rattle.std.proofs.lemmas.Simd.{Each1-get_or}
use Rattle.operator_kernel.specs.Paths.{path_at}
use Rattle.operator_kernel.proofs.Fours.{four_is, four_same}
use Rattle.operator_kernel.proofs.Quartets.{fed_phase_lane}
use Rattle.operator_kernel.proofs.quartet.fed_phases.Goals as goal

pub returns : goal.returns
returns c =
    let q = c.args.at in
    let ps = c.args.paths.now in
    let b = c.requires.bounded in
    let x = λ (i : ℕ) (lt : i < 4). Each1-get_or (λ z. unsigned_abs z ≤ 2 ^ 29) q.before_last i (pos 0) (omega arith) b.before_last in
    let y = λ (i : ℕ) (lt : i < 4). Each1-get_or (λ z. unsigned_abs z ≤ 2 ^ 29) q.last i (pos 0) (omega arith) b.last in
    let p = λ (i : ℕ) (lt : i < 4). Each1-get_or (SFits w32) q.phases i (pos 0) (omega arith) b.phases in
    let at = λ (i : ℕ) (lt : i < 4). fed_phase_lane (path_at ps i).feedback (get_or q.phases i (pos 0)) (get_or q.before_last i (pos 0))
    (get_or q.last i (pos 0)) _ ((c.requires.live.live i lt).heard, (c.requires.live.live i lt).feedback) (x i lt) (y i lt) (p i lt) refl in
    rw (c.shifts.ensures, four_is (pos 0) q.phases b.four_phases, four_is (pos 0) q.before_last b.four_before, four_is (pos 0) q.last b.four_last)
    (four_same (at 0 (omega arith)) (at 1 (omega arith)) (at 2 (omega arith)) (at 3 (omega arith)))
