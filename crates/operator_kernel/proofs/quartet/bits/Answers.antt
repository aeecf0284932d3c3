use Rattle.std.proofs.Common.{ℕ, pos, SFits, w32, ◌<◌, ◌∙◌, sym, arith}
use Rattle.std.proofs.lemmas.Simd.{Each1-get_or}
use Rattle.dx_tables.proofs.Residues.{residue_is}
use Rattle.operator_kernel.proofs.Fours.{four_is, four_same}
use Rattle.operator_kernel.proofs.Gains.{of_z_small}
use Rattle.operator_kernel.proofs.Halves.{four_of_four}
use Rattle.operator_kernel.proofs.quartet.bits.Goals as goal

pub returns : goal.returns
returns c =
    let xs = c.args.lanes in
    let f = λ (i : ℕ) (lt : i < 4). Each1-get_or (SFits w32) xs i (pos 0) (omega arith) c.requires.fits in
    let f0 = f 0 (omega arith) in
    let f1 = f 1 (omega arith) in
    let f2 = f 2 (omega arith) in
    let f3 = f 3 (omega arith) in
    rw (four_is (pos 0) xs c.requires.four)
    (four_of_four _ _ _ _ (of_z_small _ f0) (of_z_small _ f1) (of_z_small _ f2) (of_z_small _ f3)
    ∙ four_same (sym (residue_is _ f0)) (sym (residue_is _ f1)) (sym (residue_is _ f2)) (sym (residue_is _ f3)))
