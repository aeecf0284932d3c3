use Rattle.std.proofs.Common.{subst, sym, map, take, ap, ◌∙◌}
use Rattle.command_set.specs.declared.entry.Logged.{Logged}
use Rattle.instrument.specs.State.{State, apply}
use Rattle.instrument.specs.Journal.{applied}
use Rattle.instrument.specs.Instrument.{IsIn}
use Rattle.take_files.proofs.Journals.{applied_more, command_in}
use Rattle.take_files.proofs.playback.apply_all.Goals as goal

pub loop-logged-preserved : goal.loop-logged-preserved
loop-logged-preserved c = λ s h.
    let before : State = applied s (map command_in (take c.loop-logged.logged-index c.args.entries.now)) in
    subst (λ (t : State). IsIn c.apply.new.self t)
    (ap (λ (l : Logged). apply before (command_in l)) c.logged-item.is
    ∙ sym (applied_more s c.args.entries.now c.loop-logged.logged-index c.logged-item.result c.loop-logged-test.true))
    (c.apply.ensures before (c.loop-logged.invariant s h))
