use Rattle.std.proofs.Common.{inl, inr, refl, sym, subst}
use Rattle.midi_stream.specs.declared.state.ParserState.{ParserState}
use Rattle.midi_stream.specs.Growth.{extended}
use Rattle.midi_stream.specs.ByteEffects.{Advances}
use Rattle.midi_stream.proofs.ByteEffects.{stands_between_data, answer_between_data, stands_sysex_data, answer_sysex_data}
use Rattle.midi_stream.proofs.byte_effect.with_data.Goals as goal

pub returns-in-Between : goal.returns-in-Between
returns-in-Between c = record {
  stands = λ kept parts h. stands_between_data c.args.state kept parts c.args.byte c.in-Between.is c.requires.byte h;
  answer = λ kept parts h. answer_between_data c.args.state kept parts c.args.byte c.in-Between.is h;
  bytes = λ kept parts h. tt;
  range = tt;
  holds = c.requires.holds;
}

pub returns-in-Begun : goal.returns-in-Begun
returns-in-Begun c =
    elim c.in-Begun.is [
      | inl begun ↦ subst (λ (s : ParserState). Advances s c.args.byte extended c.first_data.result) (sym begun) c.first_data.ensures.begun
      | inr running ↦ subst (λ (s : ParserState). Advances s c.args.byte extended c.first_data.result) (sym running) c.first_data.ensures.running
    ]

pub returns-in-Half : goal.returns-in-Half
returns-in-Half c = subst (λ (s : ParserState). Advances s c.args.byte extended c.second_data.result) (sym c.in-Half.is) c.second_data.ensures

pub returns-in-InSysEx : goal.returns-in-InSysEx
returns-in-InSysEx c = record {
  stands = λ kept parts h. stands_sysex_data c.args.state c.in-InSysEx.count _ kept parts c.args.byte c.in-InSysEx.is c.requires.byte c.saturating_add.ensures
      h;
  answer = λ kept parts h. answer_sysex_data c.args.state c.in-InSysEx.count kept parts c.args.byte c.in-InSysEx.is h;
  bytes = λ kept parts h. tt;
  range = tt;
  holds = refl;
}
