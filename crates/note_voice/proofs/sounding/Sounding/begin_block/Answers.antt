use Rattle.std.proofs.Common.{◌≡◌, length, refl, SFits, w32, rules}
use Rattle.std.proofs.lemmas.Int.{to_z-of_z}
use Rattle.note_voice.specs.Modulation.{Modulation}
use Rattle.note_voice.specs.Note.{NoteData, after_block, pitch_settings, pitch_shift_in}
use Rattle.note_voice.specs.Running.{IsModulated, IsSounding}
use Rattle.note_voice.proofs.Blocks.{shift_is, block_input_is, pitch_after_block}
use Rattle.note_voice.proofs.sounding.Sounding.begin_block.Goals as goal

pub returns-clause-block : goal.returns-clause-block
returns-clause-block c =
    let fl : SFits w32 c.step-level.result = record { sfits = c.step-level.type_inv } in
    let fs : SFits w32 c.pitch_modulation-pitch_shift.result = record { sfits = c.pitch_modulation-pitch_shift.type_inv } in
    let fb : SFits w32 c.args.self.now.pitch_shift = search rules in
    let fo = c.ranges.lfo in
    let m : Modulation = record { lfo = c.args.lfo; lfo_depth = c.args.lfo_depth; bend = c.args.bend; wheel = c.args.wheel } in
    let shift = simp to_z-of_z at c.pitch_modulation-pitch_shift.ensures.value in
    let tuned = simp to_z-of_z at c.tune_all.ensures in
    let blocks = simp to_z-of_z at c.pass_all-ops.ensures.blocks in
    λ n r.
    let s = shift_is n m _ _ _ _ r.set.pitch_mod_depth_is r.set.pitch_mod_sensitivity_is shift
    (c.step-level.ensures.value (pitch_settings n.voice) (length n.past) n.off r.set.pitch_envelope_is) in
    let moved : IsModulated c.args.self.now.switch c.pitch_modulation-pitch_shift.result c.args.lfo c.args.lfo_depth n m =
    record { switch_is = r.set.switch_is; shift_is = s; lfo_is = refl; lfo_depth_is = refl } in
    block_input_is n m _ _ _ c.args.self.now.feedback_state r.set.algorithm_is r.set.feedback_is (blocks n m _ moved (tuned n r.set.operators_are))
    r.feedback_state_is

pub returns-clause-begun : goal.returns-clause-begun
returns-clause-begun c =
    let fl : SFits w32 c.step-level.result = record { sfits = c.step-level.type_inv } in
    let fs : SFits w32 c.pitch_modulation-pitch_shift.result = record { sfits = c.pitch_modulation-pitch_shift.type_inv } in
    let fb : SFits w32 c.args.self.now.pitch_shift = search rules in
    let fo = c.ranges.lfo in
    let m : Modulation = record { lfo = c.args.lfo; lfo_depth = c.args.lfo_depth; bend = c.args.bend; wheel = c.args.wheel } in
    let shift = simp to_z-of_z at c.pitch_modulation-pitch_shift.ensures.value in
    let tuned = simp to_z-of_z at c.tune_all.ensures in
    let passed = simp to_z-of_z at c.pass_all-ops.ensures.passed in
    λ n r.
    let s = shift_is n m _ _ _ _ r.set.pitch_mod_depth_is r.set.pitch_mod_sensitivity_is shift
    (c.step-level.ensures.value (pitch_settings n.voice) (length n.past) n.off r.set.pitch_envelope_is) in
    let moved : IsModulated c.args.self.now.switch c.pitch_modulation-pitch_shift.result c.args.lfo c.args.lfo_depth n m =
    record { switch_is = r.set.switch_is; shift_is = s; lfo_is = refl; lfo_depth_is = refl } in
    record {
      algorithm_is = r.set.algorithm_is;
      feedback_is = r.set.feedback_is;
      pitch_mod_depth_is = r.set.pitch_mod_depth_is;
      pitch_mod_sensitivity_is = r.set.pitch_mod_sensitivity_is;
      switch_is = r.set.switch_is;
      operators_are = simp to_z-of_z (passed n m _ moved (tuned n r.set.operators_are));
      pitch_envelope_is = pitch_after_block _ n m (c.step-level.ensures.stands (pitch_settings n.voice) (length n.past) n.off r.set.pitch_envelope_is);
    }
