use Rattle.std.proofs.lemmas.Int.{to_z-of_z}
use Rattle.note_voice.proofs.Blocks.{operators_begun}
use Rattle.note_voice.proofs.operators.start_all.Goals as goal

pub returns : goal.returns
returns c =
    let f = c.ranges.note in
    λ switch key h. operators_begun _ _ _ _ _ _ _ _
    (c.start.ensures switch key (simp to_z-of_z h))
    (c.start-2.ensures switch key (simp to_z-of_z h))
    (c.start-3.ensures switch key (simp to_z-of_z h))
    (c.start-4.ensures switch key (simp to_z-of_z h))
    (c.start-5.ensures switch key (simp to_z-of_z h))
    (c.start-6.ensures switch key (simp to_z-of_z h))
