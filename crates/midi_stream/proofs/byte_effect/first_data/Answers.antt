use Rattle.std.proofs.Common.{◌∷◌, [], ◌++◌, refl, ap, sym, ◌∙◌}
use Rattle.std.proofs.lemmas.Bool.{lt-ltb}
use Rattle.midi_stream.specs.declared.message.MidiMessage.{MidiMessage}
use Rattle.midi_stream.specs.Growth.{extended}
use Rattle.midi_stream.specs.Messages.{messages_of, sysex_at_end}
use Rattle.midi_stream.proofs.ByteEffects.{running_one, answer_one, half_first, answer_first, unused_begun}
use Rattle.midi_stream.proofs.byte_effect.first_data.Goals as goal

pub returns-then-has_one_data_byte-clause-begun : goal.returns-then-has_one_data_byte-clause-begun
returns-then-has_one_data_byte-clause-begun c =
    let one = sym c.has_one_data_byte.ensures ∙ c.if-has_one_data_byte.true in
    record {
      stands = λ kept parts h. running_one c.args.status parts c.args.byte one h.channel;
      answer = λ kept parts h. answer_one c.args.status parts c.args.byte one h.channel
          ∙ ap (λ (m : MidiMessage). messages_of parts ++ m ∷ []) (sym c.message_of_one.ensures.value);
      bytes = λ kept parts h. c.message_of_one.ensures.bytes (sysex_at_end (extended parts c.args.byte));
      range = c.message_of_one.ensures.range;
      holds = refl;
    }

pub returns-then-has_one_data_byte-clause-running : goal.returns-then-has_one_data_byte-clause-running
returns-then-has_one_data_byte-clause-running c =
    let one = sym c.has_one_data_byte.ensures ∙ c.if-has_one_data_byte.true in
    record {
      stands = λ kept parts h. running_one c.args.status parts c.args.byte one h.channel;
      answer = λ kept parts h. answer_one c.args.status parts c.args.byte one h.channel
          ∙ ap (λ (m : MidiMessage). messages_of parts ++ m ∷ []) (sym c.message_of_one.ensures.value);
      bytes = λ kept parts h. c.message_of_one.ensures.bytes (sysex_at_end (extended parts c.args.byte));
      range = c.message_of_one.ensures.range;
      holds = refl;
    }

pub returns-else-has_one_data_byte-clause-begun : goal.returns-else-has_one_data_byte-clause-begun
returns-else-has_one_data_byte-clause-begun c =
    let two = sym c.has_one_data_byte.ensures ∙ c.if-has_one_data_byte.false in
    record {
      stands = λ kept parts h. half_first c.args.status parts c.args.byte two h.channel (unused_begun c.args.status parts two h);
      answer = λ kept parts h. answer_first c.args.status parts c.args.byte two h.channel (unused_begun c.args.status parts two h);
      bytes = λ kept parts h. tt;
      range = tt;
      holds = lt-ltb c.args.byte 128 c.requires;
    }

pub returns-else-has_one_data_byte-clause-running : goal.returns-else-has_one_data_byte-clause-running
returns-else-has_one_data_byte-clause-running c =
    let two = sym c.has_one_data_byte.ensures ∙ c.if-has_one_data_byte.false in
    record {
      stands = λ kept parts h. half_first c.args.status parts c.args.byte two h.channel h.unused;
      answer = λ kept parts h. answer_first c.args.status parts c.args.byte two h.channel h.unused;
      bytes = λ kept parts h. tt;
      range = tt;
      holds = lt-ltb c.args.byte 128 c.requires;
    }
