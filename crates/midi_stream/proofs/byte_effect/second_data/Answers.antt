use Rattle.std.proofs.Common.{◌∷◌, [], ◌++◌, refl, ap, sym, ◌∙◌}
use Rattle.midi_stream.specs.declared.message.MidiMessage.{MidiMessage}
use Rattle.midi_stream.specs.Growth.{extended}
use Rattle.midi_stream.specs.Messages.{messages_of, sysex_at_end}
use Rattle.midi_stream.proofs.ByteEffects.{running_second, answer_second}
use Rattle.midi_stream.proofs.byte_effect.second_data.Goals as goal

pub returns : goal.returns
returns c = record {
  stands = λ kept parts h. running_second c.args.status c.args.first parts c.args.byte h;
  answer = λ kept parts h. answer_second c.args.status c.args.first parts c.args.byte h
      ∙ ap (λ (m : MidiMessage). messages_of parts ++ m ∷ []) (sym c.message_of_two.ensures.value);
  bytes = λ kept parts h. c.message_of_two.ensures.bytes (sysex_at_end (extended parts c.args.byte));
  range = c.message_of_two.ensures.range;
  holds = refl;
}
