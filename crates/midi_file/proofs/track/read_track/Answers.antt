use Rattle.std.proofs.Common.{arith, sym, ◌∙◌}
use Rattle.midi_file.specs.Values.{event_data}
use Rattle.midi_file.proofs.Tracks.{some_left, none_left, broken_within, fault_within, within_more, ended_within, all_within}
use Rattle.midi_file.proofs.track.read_track.Goals as goal

pub returns-in-Err-read_event-clause-faults : goal.returns-in-Err-read_event-clause-faults
returns-in-Err-read_event-clause-faults g c =
    let some = some_left c.loop-rest.rest.now c.is_empty.result c.is_empty.ensures c.loop-rest-test.true in
    broken_within c.refused_at.result c.loop-rest.reader c.args.end c.loop-rest.tick c.loop-rest.running c.loop-rest.rest.now c.loop-rest.acts.items _
    c.in-Err-read_event.kind c.loop-rest.invariant.within some c.in-Err-read_event.ensures.err c.refused_at.ensures

pub returns-in-Err-apply_event-clause-faults : goal.returns-in-Err-apply_event-clause-faults
returns-in-Err-apply_event-clause-faults g c =
    let w = c.loop-rest.invariant.within in
    fault_within c.loop-rest.reader c.args.end c.loop-rest.tick _ c.loop-rest.running c.loop-rest.rest.now c.loop-rest.acts.items _
    (event_data c.in-Ok-read_event.event)
    c.in-Err-apply_event.fault w (some_left c.loop-rest.rest.now c.is_empty.result c.is_empty.ensures c.loop-rest-test.true) c.in-Ok-read_event.ensures.ok
    c.tick_after-tick.ensures.tick (c.in-Err-apply_event.ensures.faults w.stream w.reads)

pub returns-then-ends_track-clause-come : goal.returns-then-ends_track-clause-come
returns-then-ends_track-clause-come g c =
    let w = c.loop-rest.invariant.within in
    ended_within c.loop-rest.reader c.args.end c.loop-rest.tick _ c.loop-rest.running c.loop-rest.rest.now c.loop-rest.acts.items c.apply_event.new.acts.items _
    (event_data c.in-Ok-read_event.event) w (some_left c.loop-rest.rest.now c.is_empty.result c.is_empty.ensures c.loop-rest-test.true)
    c.in-Ok-read_event.ensures.ok c.tick_after-tick.ensures.tick
    (c.in-Ok-apply_event.ensures.come w.stream w.reads) (sym c.ends_track.ensures ∙ c.if-ends_track.true)

pub loop-rest-preserved : goal.loop-rest-preserved
loop-rest-preserved g c =
    let w = c.loop-rest.invariant.within in
    record {
      short = omega (arith, c.in-Ok-read_event.ensures.shorter);
      early = omega (arith, c.in-Ok-read_event.ensures.shorter, c.tick_after-tick.ensures.near);
      within = within_more c.loop-rest.reader c.apply_event.new.reader c.args.end c.loop-rest.tick _ c.loop-rest.running c.loop-rest.rest.now
          c.loop-rest.acts.items
          c.apply_event.new.acts.items _ (event_data c.in-Ok-read_event.event) w
          (some_left c.loop-rest.rest.now c.is_empty.result c.is_empty.ensures c.loop-rest-test.true) c.in-Ok-read_event.ensures.ok
          c.in-Ok-read_event.ensures.shorter
          c.tick_after-tick.ensures.tick (c.in-Ok-apply_event.ensures.reads w.stream w.reads) (c.in-Ok-apply_event.ensures.come w.stream w.reads)
          (sym c.ends_track.ensures ∙ c.if-ends_track.false);
    }

pub returns-clause-come : goal.returns-clause-come
returns-clause-come g c =
    all_within c.loop-rest.reader c.args.end c.loop-rest.tick c.loop-rest.running c.loop-rest.rest.now c.loop-rest.acts.items _ c.loop-rest.invariant.within
    (none_left c.loop-rest.rest.now c.is_empty.result c.is_empty.ensures c.loop-rest-test.false)
