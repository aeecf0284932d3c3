use Rattle.std.proofs.Common.{◌≤◌, length}
use Rattle.script_plan.specs.Plan.{last_due}
use Rattle.midi_file.specs.Time.{block_of, changes_in}
use Rattle.midi_file.specs.File.{timed_plan}
use Rattle.midi_file.proofs.Plans.{IsPlanned}
use Rattle.midi_file.proofs.plan.plan_acts.Given as goal

abbrev pub invariant-loop-timed : goal.invariant-loop-timed
invariant-loop-timed l = record {
  planned : IsPlanned l.clock l.bounds.blocks l.division (changes_in l.fn.acts.items) l.timed-iterator.rest.items l.script
      (timed_plan l.bounds.blocks l.division l.fn.acts.items);
  few : length l.script ≤ l.bounds.room;
  due : last_due l.script ≤ block_of l.division l.clock.time;
}
