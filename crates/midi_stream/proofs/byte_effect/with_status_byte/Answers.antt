use Rattle.std.proofs.Common.{sym, subst}
use Rattle.midi_stream.specs.declared.state.ParserState.{ParserState}
use Rattle.midi_stream.specs.Growth.{with_status}
use Rattle.midi_stream.specs.ByteEffects.{Advances}
use Rattle.midi_stream.proofs.ByteEffects.{outside_none, answer_none}
use Rattle.midi_stream.proofs.byte_effect.with_status_byte.Goals as goal

pub returns-in-InSysEx : goal.returns-in-InSysEx
returns-in-InSysEx c = subst (λ (s : ParserState). Advances s c.args.byte with_status c.status_in_sysex.result) (sym c.in-InSysEx.is) c.status_in_sysex.ensures

pub returns-in_default : goal.returns-in_default
returns-in_default c = record {
  stands = λ kept parts h. c.state_after.ensures.stands c.args.state kept parts (outside_none c.args.state kept parts c.args.byte c.in_default.not-InSysEx h);
  answer = λ kept parts h. answer_none parts c.args.byte (outside_none c.args.state kept parts c.args.byte c.in_default.not-InSysEx h);
  bytes = λ kept parts h. tt;
  range = tt;
  holds = c.state_after.ensures.holds;
}
