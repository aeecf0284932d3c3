use Rattle.std.proofs.Common.{ℕ, pos, get_or, ◌∙◌, ◌<◌, ap, sym, SFits, w32, arith, rules}
use Rattle.std.proofs.lemmas.Int.{to_z-of_z}
use Rattle.operator_kernel.specs.Paths.{path_at, state_of}
use Rattle.operator_kernel.proofs.Fours.{four_same}
use Rattle.operator_kernel.proofs.LaneSteps.{wide_gain_read}
use Rattle.operator_kernel.proofs.Quartets.{phase_read, state_first}
use Rattle.operator_kernel.proofs.quartet.begin.Goals as goal

pub returns : goal.returns
returns c =
    let ps = c.args.paths.now in
    let h = λ (k : ℕ) (lt : k < 4). (c.requires.live.live k lt).gains in
    let e00 : SFits w32 (path_at ps 0).before_last = search rules in
    let e01 : SFits w32 (path_at ps 0).last = search rules in
    let e10 : SFits w32 (path_at ps 1).before_last = search rules in
    let e11 : SFits w32 (path_at ps 1).last = search rules in
    let e20 : SFits w32 (path_at ps 2).before_last = search rules in
    let e21 : SFits w32 (path_at ps 2).last = search rules in
    let e30 : SFits w32 (path_at ps 3).before_last = search rules in
    let e31 : SFits w32 (path_at ps 3).last = search rules in
    let s = λ (k : ℕ). sym (state_first (path_at ps k).op (path_at ps k).feedback (state_of (path_at ps k))) in
    record {
      phases = rw c.first_phases.ensures (four_same (phase_read (path_at ps 0).op 0) (phase_read (path_at ps 1).op 0) (phase_read (path_at ps 2).op 0)
          (phase_read (path_at ps 3).op 0));
      gains = rw c.first_gains.ensures (four_same (wide_gain_read (path_at ps 0).op 0 (h 0 (omega arith)) (omega arith))
          (wide_gain_read (path_at ps 1).op 0 (h 1 (omega arith)) (omega arith)) (wide_gain_read (path_at ps 2).op 0 (h 2 (omega arith)) (omega arith))
          (wide_gain_read (path_at ps 3).op 0 (h 3 (omega arith)) (omega arith)));
      before_last = four_same (to_z-of_z w32 _ e00 ∙ ap (λ m. m.before_last) (s 0)) (to_z-of_z w32 _ e10 ∙ ap (λ m. m.before_last) (s 1))
          (to_z-of_z w32 _ e20 ∙ ap (λ m. m.before_last) (s 2)) (to_z-of_z w32 _ e30 ∙ ap (λ m. m.before_last) (s 3));
      last = four_same (to_z-of_z w32 _ e01 ∙ ap (λ m. m.last) (s 0)) (to_z-of_z w32 _ e11 ∙ ap (λ m. m.last) (s 1))
          (to_z-of_z w32 _ e21 ∙ ap (λ m. m.last) (s 2)) (to_z-of_z w32 _ e31 ∙ ap (λ m. m.last) (s 3));
    }
