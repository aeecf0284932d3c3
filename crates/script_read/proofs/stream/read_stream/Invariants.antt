use Rattle.std.proofs.Common.{◌≡◌, ◌≤◌, [], take, length}
use Rattle.midi_stream.specs.FedStream.{Reads}
use Rattle.velocity_map.specs.declared.curve.Curve.TheVariants.{Linear}
use Rattle.script_plan.specs.Plan.{last_due}
use Rattle.script_outcome.specs.declared.fault.Place.TheVariants as place
use Rattle.script_outcome.specs.Stream.{begun_at}
use Rattle.script_outcome.specs.Outcomes.{fed_outcomes}
use Rattle.script_outcome.specs.ReaderAnswer.{all_given}
use Rattle.script_read.proofs.stream.read_stream.Given as goal

abbrev pub invariant-loop-at : goal.invariant-loop-at
invariant-loop-at g l = record {
  reads : Reads l.feed.reader (take l.at l.bytes);
  start : l.start ≡ begun_at (take l.at l.bytes);
  given : fed_outcomes (λ before. place.Byte (begun_at before)) 0 Linear [] (take l.at l.bytes) ≡ all_given l.feed.script;
  few : length l.feed.script ≤ l.room;
  due : last_due l.feed.script ≤ 0;
}
