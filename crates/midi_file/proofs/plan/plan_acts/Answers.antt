use Rattle.std.proofs.Common.{◌≡◌, ◌+◌, ◌-◌, ◌*◌, arith, ◌∙◌}
use Rattle.command_set.specs.Command.{content}
use Rattle.midi_file.proofs.Plans.{block_rises, planned_tempo_at, planned_command_at, stopped_command_at, all_planned}
use Rattle.midi_file.proofs.plan.plan_acts.Goals as goal

pub loop-timed-preserved-in-Tempo : goal.loop-timed-preserved-in-Tempo
loop-timed-preserved-in-Tempo c =
    let time : c.set_tempo.new.self.time ≡ c.loop-timed.clock.time + (c.into_parts-tick.result.0 - c.loop-timed.clock.tick) * c.loop-timed.clock.tempo =
    c.set_tempo.ensures.time ∙ c.advance.ensures.time in
    let rises = block_rises c.args.division c.loop-timed.clock.time c.set_tempo.new.self.time c.requires.division (omega arith) in
    record {
      planned = planned_tempo_at c.loop-timed.clock c.set_tempo.new.self c.args.bounds.blocks c.args.division _ c.loop-timed.timed-iterator.rest.items
          c.in-Some.timed c.next.new.self.rest.items
          c.loop-timed.script _ c.into_parts-tick.result.0 c.into_parts-tick.result.1 c.in-Tempo.tempo c.loop-timed.invariant.planned c.in-Some.ensures.steps.0
          (rw c.in-Tempo.is at c.into_parts-tick.ensures.parts) time (c.set_tempo.ensures.tick ∙ c.advance.ensures.tick) c.set_tempo.ensures.tempo;
      few = c.loop-timed.invariant.few;
      due = omega arith;
    }

pub loop-timed-preserved : goal.loop-timed-preserved
loop-timed-preserved c = record {
  planned = planned_command_at c.loop-timed.clock c.advance.new.self c.args.bounds.blocks c.args.division _ c.loop-timed.timed-iterator.rest.items
      c.in-Some.timed c.next.new.self.rest.items
      c.loop-timed.script c.give_at.new.script _ c.into_parts-tick.result.0 c.into_parts-tick.result.1 c.block.result (content c.in-Command.command)
      c.loop-timed.invariant.planned c.in-Some.ensures.steps.0 (rw c.in-Command.is at c.into_parts-tick.ensures.parts) c.advance.ensures.time
      c.advance.ensures.tick c.advance.ensures.tempo
      c.block.ensures c.in-Ok.ensures.given;
  few = c.in-Ok.ensures.few;
  due = omega (arith, c.in-Ok.ensures.due);
}

pub returns-in-Err : goal.returns-in-Err
returns-in-Err c =
    stopped_command_at c.loop-timed.clock c.advance.new.self c.args.bounds.blocks c.args.division c.args.bounds.room _ c.loop-timed.timed-iterator.rest.items
    c.in-Some.timed c.next.new.self.rest.items
    c.loop-timed.script _ c.in-Err.fault c.into_parts-tick.result.0 c.into_parts-tick.result.1 c.block.result (content c.in-Command.command)
    c.loop-timed.invariant.planned c.in-Some.ensures.steps.0 (rw c.in-Command.is at c.into_parts-tick.ensures.parts) c.advance.ensures.time c.block.ensures
    c.in-Err.ensures.stops

pub returns : goal.returns
returns c =
    all_planned c.loop-timed.clock c.args.bounds.blocks c.args.division c.args.bounds.room _ c.loop-timed.timed-iterator.rest.items c.loop-timed.script _
    c.loop-timed.invariant.planned
    (omega (arith, c.loop-timed.timed-iterator.rest.ok.0, c.in-None.ensures.steps.0)) c.loop-timed.invariant.few
