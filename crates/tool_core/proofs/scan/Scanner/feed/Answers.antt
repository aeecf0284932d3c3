use Rattle.std.proofs.Common.{◌≡◌, ℕ, ◌+◌, ◌∷◌, [], ◌++◌, take, get_or, sym, ◌∙◌, ap, subst, if◌then◌else◌}
use Rattle.std.specs.Prelude.{◌==◌, Option, IfSome}
use Rattle.midi_stream.specs.declared.message.MidiMessage.{MidiMessage}
use Rattle.midi_stream.specs.Messages.{messages, last_sysex}
use Rattle.midi_stream.specs.Standing.{Answers, HasBytes}
use Rattle.tool_core.specs.SysEx.{placed, start_before, sysex_at}
use Rattle.tool_core.specs.Scans.{TellsOf}
use Rattle.tool_core.proofs.Streams.{take_next, message_told, start_next}
use Rattle.tool_core.proofs.scan.Scanner.feed.Goals as goal

pub returns-clause-follows : goal.returns-clause-follows
returns-clause-follows c file below is h = record {
  reads = rw (take_next file c.args.offset c.args.byte below is) (c.feed-message.ensures.stands (take c.args.offset file) h.reads);
  start = c.start_after-self.ensures
      ∙ ap (λ (b : ℕ). if b == 240 then c.args.offset else c.args.self.now.start) (sym is)
      ∙ ap (λ (s : ℕ). if get_or file c.args.offset 0 == 240 then c.args.offset else s) h.start
      ∙ sym (start_next file c.args.offset);
}

pub returns-clause-ended : goal.returns-clause-ended
unfolding sysex_at
returns-clause-ended c file below is h =
    let next : take (c.args.offset + 1) file ≡ take c.args.offset file ++ c.args.byte ∷ [] = take_next file c.args.offset c.args.byte below is in
    let answer : Answers c.feed-message.result (messages (take c.args.offset file)) (messages (take (c.args.offset + 1) file)) =
    rw next (c.feed-message.ensures.answer (take c.args.offset file) h.reads) in
    let bytes : IfSome c.feed-message.result (λ m. HasBytes m (last_sysex (take (c.args.offset + 1) file))) =
    rw next (c.feed-message.ensures.bytes (take c.args.offset file) h.reads) in
    subst (λ (m : Option MidiMessage). TellsOf c.ending_of.result (placed m (start_before file c.args.offset) (last_sysex (take (c.args.offset + 1) file))))
    (sym (message_told c.feed-message.result file c.args.offset answer))
    (subst (λ (s : ℕ). TellsOf c.ending_of.result (placed c.feed-message.result s (last_sysex (take (c.args.offset + 1) file)))) h.start
    (c.ending_of.ensures (last_sysex (take (c.args.offset + 1) file)) bytes))
