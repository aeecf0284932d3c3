use Rattle.std.proofs.Common.{◌≡◌, ◌++◌, List, ℕ, [], take}
use Rattle.std.specs.List.{flat_map}
use Rattle.midi_stream.specs.FedStream.{Reads}
use Rattle.song_bank.specs.Messages.{ended_after}
use Rattle.song_bank.specs.Event.{ended_event}
use Rattle.song_bank.specs.Sound.{AreSound}
use Rattle.song_bank.proofs.bank.Bank.add_stream.Given as goal

abbrev pub invariant-loop-byte : goal.invariant-loop-byte
invariant-loop-byte l = record {
  reads : Reads l.reader (take l.byte-index l.stream);
  events : l.self-inside.events.items ≡ l.initial.self-inside.events.items ++ flat_map ended_event (ended_after [] (take l.byte-index l.stream));
  sound : AreSound (ended_after [] (take l.byte-index l.stream));
}
