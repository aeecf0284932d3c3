use Rattle.std.proofs.Common.{◌∙◌, sym}
use Rattle.midi_file.proofs.Plans.{stops_late}
use Rattle.midi_file.proofs.plan.give_at.Goals as goal

pub returns-then-is_too_late-clause-stops : goal.returns-then-is_too_late-clause-stops
returns-then-is_too_late-clause-stops c =
    stops_late c.refused_at.result c.args.bounds.room c.args.place c.args.script.now _ _ (sym c.is_too_late.ensures.late
    ∙ c.if-is_too_late.true) c.requires.few c.refused_at.ensures
