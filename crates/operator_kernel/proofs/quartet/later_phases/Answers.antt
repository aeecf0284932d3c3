use Rattle.std.proofs.Common.{ℕ, refl, to_z, of_z, ◌%◌, ◌^◌, ◌≡◌, ◌∙◌, ◌+◌, SFits, w32, rules}
use Rattle.std.proofs.lemmas.Int.{wrapping_add_is, SFits-int_wrap}
use Rattle.operator_kernel.specs.declared.OpBlock.{OpBlock}
use Rattle.operator_kernel.specs.Lanes.{phase_of}
use Rattle.operator_kernel.specs.Paths.{path_at}
use Rattle.operator_kernel.proofs.Fours.{four_same}
use Rattle.operator_kernel.proofs.Indices.{phase_next}
use Rattle.operator_kernel.proofs.quartet.later_phases.Goals as goal

lane : (op : OpBlock) (j : ℕ) → SFits w32 op.freq → to_z w32 ((of_z w32 (phase_of op j) + of_z w32 op.freq) % 2 ^ 32) ≡ phase_of op (j + 1)
lane op j f = wrapping_add_is w32 (phase_of op j) op.freq (SFits-int_wrap w32 _) f ∙ phase_next op.phase op.freq _ _ j refl refl

pub returns : goal.returns
returns c = λ j e.
    let ps = c.args.paths.now in
    let f0 : SFits w32 (path_at ps 0).op.freq = search rules in
    let f1 : SFits w32 (path_at ps 1).op.freq = search rules in
    let f2 : SFits w32 (path_at ps 2).op.freq = search rules in
    let f3 : SFits w32 (path_at ps 3).op.freq = search rules in
    rw e (four_same (lane (path_at ps 0).op j f0) (lane (path_at ps 1).op j f1) (lane (path_at ps 2).op j f2) (lane (path_at ps 3).op j f3))
