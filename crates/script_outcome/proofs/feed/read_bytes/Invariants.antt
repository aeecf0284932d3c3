use Rattle.std.proofs.Common.{◌≡◌, ◌≤◌, ◌++◌, ℕ, List, take, length}
use Rattle.midi_stream.specs.FedStream.{Reads}
use Rattle.velocity_map.specs.Map.{curve_of}
use Rattle.script_plan.specs.Plan.{last_due}
use Rattle.script_outcome.specs.Outcomes.{fed_outcomes}
use Rattle.script_outcome.specs.ReaderAnswer.{all_given}
use Rattle.script_outcome.proofs.feed.read_bytes.Given as goal

abbrev pub invariant-loop-byte : goal.invariant-loop-byte
invariant-loop-byte g l = record {
  reads : (stream : List ℕ) → Reads l.initial.feed.reader stream → Reads l.feed.reader (stream ++ take l.byte-index l.bytes);
  given : (stream : List ℕ) → Reads l.initial.feed.reader stream
      → all_given l.feed.script ≡ all_given l.initial.feed.script ++ fed_outcomes (λ before.
      l.spot.place) l.spot.block (curve_of l.map) stream (take l.byte-index l.bytes);
  few : length l.feed.script ≤ l.room;
  due : last_due l.feed.script ≤ l.spot.block;
}
