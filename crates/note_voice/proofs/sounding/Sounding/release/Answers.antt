use Rattle.std.proofs.Common.{length}
use Rattle.note_voice.specs.Note.{pitch_settings}
use Rattle.note_voice.proofs.Blocks.{state_released}
use Rattle.note_voice.proofs.sounding.Sounding.release.Goals as goal

pub returns : goal.returns
returns c = λ n r. record {
  set = record {
    algorithm_is = r.set.algorithm_is;
    feedback_is = r.set.feedback_is;
    pitch_mod_depth_is = r.set.pitch_mod_depth_is;
    pitch_mod_sensitivity_is = r.set.pitch_mod_sensitivity_is;
    switch_is = r.set.switch_is;
    operators_are = c.release_all.ensures n _ r.set.operators_are;
    pitch_envelope_is = c.release.ensures (pitch_settings n.voice) (length n.past) n.off r.set.pitch_envelope_is;
  };
  feedback_state_is = state_released n c.args.self.now.feedback_state r.feedback_state_is;
}
