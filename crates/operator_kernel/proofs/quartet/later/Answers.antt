use Rattle.std.proofs.Common.{ℕ, map, to_z, of_z, ◌≡◌, ◌<◌, ◌≤◌, ◌+◌, ◌∙◌, ap, sym, w32, w64, arith}
use Rattle.operator_kernel.specs.Paths.{path_at, state_of}
use Rattle.operator_kernel.specs.Quartets.{phase_lanes, gains_of_four}
use Rattle.operator_kernel.proofs.Fours.{four_same}
use Rattle.operator_kernel.proofs.LaneSteps.{wide_gain_read}
use Rattle.operator_kernel.proofs.Quartets.{phase_read, last_read, sample_read, state_next}
use Rattle.operator_kernel.proofs.quartet.later.Goals as goal

pub returns : goal.returns
returns c = λ j lt at ey.
    let ps = c.args.paths.now in
    let l = c.requires.live.live in
    let l0 = l 0 (omega arith) in
    let l1 = l 1 (omega arith) in
    let l2 = l 2 (omega arith) in
    let l3 = l 3 (omega arith) in
    let le : j ≤ 64 = omega (arith, lt) in
    let ep : map (to_z w32) (map (of_z w32) c.args.at.phases) ≡ phase_lanes ps j = rw at.phases (four_same (phase_read (path_at ps 0).op j)
    (phase_read (path_at ps 1).op j) (phase_read (path_at ps 2).op j) (phase_read (path_at ps 3).op j)) in
    let eg : map (to_z w64) (map (of_z w64) c.args.at.gains) ≡ gains_of_four ps j = rw at.gains (four_same
    (wide_gain_read (path_at ps 0).op j l0.gains (omega (arith, lt))) (wide_gain_read (path_at ps 1).op j l1.gains (omega (arith, lt)))
    (wide_gain_read (path_at ps 2).op j l2.gains (omega (arith, lt))) (wide_gain_read (path_at ps 3).op j l3.gains (omega (arith, lt)))) in
    let s = λ (k : ℕ). sym (state_next (path_at ps k).op (path_at ps k).feedback (state_of (path_at ps k)) j) in
    record {
      phases = rw (c.later_phases.ensures j ep) (four_same (phase_read (path_at ps 0).op (j + 1)) (phase_read (path_at ps 1).op (j + 1))
          (phase_read (path_at ps 2).op (j + 1)) (phase_read (path_at ps 3).op (j + 1)));
      gains = rw (c.later_gains.ensures j lt eg) (four_same (wide_gain_read (path_at ps 0).op (j + 1) l0.gains (omega (arith, lt)))
          (wide_gain_read (path_at ps 1).op (j + 1) l1.gains (omega (arith, lt))) (wide_gain_read (path_at ps 2).op (j + 1) l2.gains (omega (arith, lt)))
          (wide_gain_read (path_at ps 3).op (j + 1) l3.gains (omega (arith, lt))));
      before_last = rw at.last (four_same (last_read (path_at ps 0) j l0 le ∙ ap (λ m. m.before_last) (s 0)) (last_read (path_at ps 1) j l1 le
          ∙ ap (λ m. m.before_last) (s 1)) (last_read (path_at ps 2) j l2 le ∙ ap (λ m. m.before_last) (s 2)) (last_read (path_at ps 3) j l3 le
          ∙ ap (λ m. m.before_last) (s 3)));
      last = rw ey (four_same (sample_read (path_at ps 0) j l0 lt ∙ ap (λ m. m.last) (s 0)) (sample_read (path_at ps 1) j l1 lt ∙ ap (λ m. m.last) (s 1))
          (sample_read (path_at ps 2) j l2 lt ∙ ap (λ m. m.last) (s 2)) (sample_read (path_at ps 3) j l3 lt ∙ ap (λ m. m.last) (s 3)));
    }
