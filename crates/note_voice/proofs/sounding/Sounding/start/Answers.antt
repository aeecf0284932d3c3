use Rattle.std.proofs.Common.{SFits, w32, refl}
use Rattle.std.proofs.lemmas.Int.{to_z-of_z}
use Rattle.note_voice.proofs.Blocks.{state_at_start, pitch_begun}
use Rattle.note_voice.proofs.sounding.Sounding.start.Goals as goal

pub returns : goal.returns
returns c =
    let f : SFits w32 c.played_note-note.result = record { sfits = c.played_note-note.type_inv } in
    record {
      set = record {
        algorithm_is = c.algorithm.ensures.value;
        feedback_is = c.feedback.ensures.value;
        pitch_mod_depth_is = c.pitch_depth.ensures.value;
        pitch_mod_sensitivity_is = c.pitch_sensitivity.ensures.value;
        switch_is = refl;
        operators_are = c.start_all.ensures c.args.switch c.args.key (simp to_z-of_z c.played_note-note.ensures.value);
        pitch_envelope_is = pitch_begun _ _ _ _ c.pitch_rates.ensures.value c.pitch_levels.ensures.value c.new.ensures;
      };
      feedback_state_is = state_at_start _;
    }
