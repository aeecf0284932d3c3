use Rattle.std.proofs.Common.{List, subst}
use Rattle.script_outcome.specs.Outcomes.{Outcome}
use Rattle.script_outcome.specs.ReaderAnswer.{Settles}
use Rattle.midi_file.proofs.Plans.{whole_file, faulty_file}
use Rattle.midi_file.proofs.file.read_midi_file.Goals as goal

pub returns-in-Err : goal.returns-in-Err
returns-in-Err g c = faulty_file c.in-Err.fault c.args.bounds.blocks c.args.bounds.room c.args.bytes.now c.in-Err.ensures.faults

pub returns-in-Ok-sort_by_tick : goal.returns-in-Ok-sort_by_tick
returns-in-Ok-sort_by_tick g c =
    subst (λ (os : List Outcome). Settles c.plan_acts.result c.args.bounds.room os)
    (whole_file c.args.bounds.blocks c.args.bytes.now c.read_acts.new.acts.items c.sort_by_tick.new.acts.items c.in-Ok.division
    c.in-Ok.ensures.come c.in-Ok-sort_by_tick.ensures.order c.in-Ok.ensures.division) c.plan_acts.ensures
