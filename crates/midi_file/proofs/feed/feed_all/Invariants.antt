use Rattle.std.proofs.Common.{◌≡◌, ◌++◌, ℕ, List, take}
use Rattle.midi_stream.specs.FedStream.{Reads}
use Rattle.midi_file.specs.Track.{bytes_outcomes}
use Rattle.midi_file.specs.FileSoFar.{all_come}
use Rattle.midi_file.proofs.feed.feed_all.Given as goal

abbrev pub invariant-loop-byte : goal.invariant-loop-byte
invariant-loop-byte g l = record {
  reads : (stream : List ℕ) → Reads l.initial.reader stream → Reads l.reader (stream ++ take l.byte-index l.bytes);
  come : (stream : List ℕ) → Reads l.initial.reader stream
      → all_come l.acts.items ≡ all_come l.initial.acts.items ++ bytes_outcomes l.at.tick l.at.place stream (take l.byte-index l.bytes);
}
