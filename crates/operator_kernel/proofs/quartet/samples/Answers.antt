use Rattle.std.proofs.Common.{ℕ, List, get_or, pos, ◌<◌, ◌^◌, SFits, w32, to_z, of_z, arith}
use lib.Lanes.{Each1}
use Rattle.std.proofs.lemmas.Int.{to_z-of_z, SFits-int_wrap}
use Rattle.operator_kernel.specs.declared.FeedbackPath.{FeedbackPath}
use Rattle.operator_kernel.specs.declared.quartet.Quartet.{Quartet}
use Rattle.operator_kernel.specs.Paths.{path_at}
use Rattle.operator_kernel.specs.Quartets.{fed_phase, phases_with_feedback}
use Rattle.operator_kernel.proofs.Fours.{four_same}
use Rattle.operator_kernel.proofs.LaneSteps.{wide_small}
use Rattle.operator_kernel.proofs.Quartets.{reads_fit, sine_small, fed_lane}
use Rattle.operator_kernel.proofs.quartet.samples.Goals as goal

fit : (ps : List FeedbackPath) (q : Quartet) → Each1 (SFits w32) (phases_with_feedback ps q)
fit ps q = (SFits-int_wrap w32 _, (SFits-int_wrap w32 _, (SFits-int_wrap w32 _, (SFits-int_wrap w32 _, tt))))

pub sines_of-sines-requires-clause-four : goal.sines_of-sines-requires-clause-four
sines_of-sines-requires-clause-four c = rw c.fed_phases.ensures

pub sines_of-sines-requires-clause-fits : goal.sines_of-sines-requires-clause-fits
sines_of-sines-requires-clause-fits c =
    let f = fit c.args.paths.now c.args.at in
    rw c.fed_phases.ensures (reads_fit (phases_with_feedback c.args.paths.now c.args.at) f)

pub four_products-requires-clause-four_sines : goal.four_products-requires-clause-four_sines
four_products-requires-clause-four_sines c = rw (c.sines_of-sines.ensures, c.fed_phases.ensures)

pub four_products-requires-clause-sines : goal.four_products-requires-clause-sines
four_products-requires-clause-sines c =
    rw (c.sines_of-sines.ensures, c.fed_phases.ensures) (sine_small _, (sine_small _, (sine_small _, (sine_small _, tt))))

pub four_products-requires-clause-gains : goal.four_products-requires-clause-gains
four_products-requires-clause-gains c = wide_small (2 ^ 28) c.args.at.gains (omega arith) c.requires.bounded.gains

pub returns : goal.returns
returns c = λ j lt at.
    let q = c.args.at in
    let ps = c.args.paths.now in
    let live = c.requires.live.live in
    let phase = λ (k : ℕ). to_z w32 (of_z w32 (fed_phase (path_at ps k).feedback q k)) in
    let l0 = fed_lane (path_at ps 0) j (get_or q.phases 0 (pos 0)) (get_or q.before_last 0 (pos 0)) (get_or q.last 0 (pos 0)) (phase 0)
    (live 0 (omega arith)) lt (rw at.phases) (rw at.before_last) (rw at.last) (to_z-of_z w32 _ (SFits-int_wrap w32 _)) in
    let l1 = fed_lane (path_at ps 1) j (get_or q.phases 1 (pos 0)) (get_or q.before_last 1 (pos 0)) (get_or q.last 1 (pos 0)) (phase 1)
    (live 1 (omega arith)) lt (rw at.phases) (rw at.before_last) (rw at.last) (to_z-of_z w32 _ (SFits-int_wrap w32 _)) in
    let l2 = fed_lane (path_at ps 2) j (get_or q.phases 2 (pos 0)) (get_or q.before_last 2 (pos 0)) (get_or q.last 2 (pos 0)) (phase 2)
    (live 2 (omega arith)) lt (rw at.phases) (rw at.before_last) (rw at.last) (to_z-of_z w32 _ (SFits-int_wrap w32 _)) in
    let l3 = fed_lane (path_at ps 3) j (get_or q.phases 3 (pos 0)) (get_or q.before_last 3 (pos 0)) (get_or q.last 3 (pos 0)) (phase 3)
    (live 3 (omega arith)) lt (rw at.phases) (rw at.before_last) (rw at.last) (to_z-of_z w32 _ (SFits-int_wrap w32 _)) in
    rw (c.four_products.ensures, c.sines_of-sines.ensures, c.fed_phases.ensures, at.gains) (four_same l0 l1 l2 l3)
