use Rattle.std.proofs.Common.{◌≡◌, length, unsigned_abs, SFits, w32, Some, Option}
use Rattle.std.proofs.lemmas.Int.{to_z-of_z}
use Rattle.note_voice.specs.Modulation.{Modulation}
use Rattle.note_voice.specs.Note.{after_block}
use Rattle.note_voice.proofs.Sums.{IsAdded-same}
use Rattle.note_voice.proofs.Blocks.{sample_is, state_after_block}
use Rattle.note_voice.proofs.note.Note.block.Goals as goal

pub returns-in-Some-clause-samples : goal.returns-in-Some-clause-samples
returns-in-Some-clause-samples c =
    let fl = c.ranges.lfo in
    let fd = c.ranges.lfo_depth in
    let m : Modulation = record { lfo = c.args.lfo; lfo_depth = unsigned_abs c.args.lfo_depth; bend = c.args.bend; wheel = c.args.wheel } in
    let made = simp to_z-of_z at c.begin_block-block.ensures.block in
    λ n r.
    let h = rw c.in-Some.is at r in
    IsAdded-same _ _ _ _ c.sound_alone.ensures.samples (λ j lt. sample_is (after_block n m) (length n.past) j _ (made n h))

pub returns-in-Some-clause-passed : goal.returns-in-Some-clause-passed
returns-in-Some-clause-passed c =
    let fl = c.ranges.lfo in
    let fd = c.ranges.lfo_depth in
    let m : Modulation = record { lfo = c.args.lfo; lfo_depth = unsigned_abs c.args.lfo_depth; bend = c.args.bend; wheel = c.args.wheel } in
    let made = simp to_z-of_z at c.begin_block-block.ensures.block in
    let begun = simp to_z-of_z at c.begin_block-block.ensures.begun in
    λ n r.
    let h = rw c.in-Some.is at r in
    c.end_block.ensures (after_block n m) (begun n h) (state_after_block n m _ c.sound_alone.new.block.feedback_state (made n h)
    c.sound_alone.ensures.feedback_state)
