use Rattle.std.proofs.Common.{ℕ, List, take, get_or, refl, sym, subst}
use Rattle.midi_stream.specs.FedStream.{Reads}
use Rattle.script_outcome.proofs.EndedMessages.{take_next}
use Rattle.song_bank.proofs.Streams.{events_on, no_events, none_unsound, sound_on}
use Rattle.song_bank.proofs.bank.Bank.add_stream.Goals as goal

pub loop-byte-init : goal.loop-byte-init
loop-byte-init c = record { reads = c.in_ok-reader.ensures; events = no_events c.self.inside.events.items; sound = none_unsound }

pub loop-byte-preserved : goal.loop-byte-preserved
loop-byte-preserved c =
    let i = c.loop-byte.invariant in
    let at : ℕ = c.loop-byte.byte-index in
    let bytes : List ℕ = c.args.stream.now in
    record {
      reads = subst (λ (s : List ℕ). Reads c.push_ended.new.reader s) (sym (take_next bytes at (get_or bytes at 0) c.loop-byte-test.true refl))
          (c.push_ended.ensures.reads (take at bytes) i.reads);
      events = events_on bytes at (get_or bytes at 0) _ _ _ c.loop-byte-test.true refl i.events (c.in_ok-push_ended.ensures.events (take at bytes) i.reads);
      sound = sound_on bytes at (get_or bytes at 0) c.loop-byte-test.true refl i.sound (c.in_ok-push_ended.ensures.sound (take at bytes) i.reads);
    }
