use Rattle.std.proofs.Common.{ℕ, ◌∙◌, SFits, w32, rules}
use Rattle.std.proofs.lemmas.Int.{to_z-of_z}
use Rattle.operator_kernel.specs.Paths.{path_at}
use Rattle.operator_kernel.proofs.Fours.{four_same}
use Rattle.operator_kernel.proofs.Indices.{phase_first}
use Rattle.operator_kernel.proofs.quartet.first_phases.Goals as goal

pub returns : goal.returns
returns c =
    let ps = c.args.paths.now in
    let f0 : SFits w32 (path_at ps 0).op.phase = search rules in
    let f1 : SFits w32 (path_at ps 1).op.phase = search rules in
    let f2 : SFits w32 (path_at ps 2).op.phase = search rules in
    let f3 : SFits w32 (path_at ps 3).op.phase = search rules in
    four_same (to_z-of_z w32 _ f0 ∙ phase_first _ (path_at ps 0).op.freq f0) (to_z-of_z w32 _ f1 ∙ phase_first _ (path_at ps 1).op.freq f1)
    (to_z-of_z w32 _ f2 ∙ phase_first _ (path_at ps 2).op.freq f2) (to_z-of_z w32 _ f3 ∙ phase_first _ (path_at ps 3).op.freq f3)
