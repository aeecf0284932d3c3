use Rattle.std.proofs.Common.{refl, ◌∙◌}
use Rattle.tool_core.proofs.Endings.{put_ends, several_unwritten}
use Rattle.tool_core.proofs.Several.{named_failure}
use Rattle.tool_core.proofs.Held.{three_undone}
use Rattle.tool_core.proofs.generate.finish_scripts.Goals as goal

pub returns-in-Ok-clause-finishes : goal.returns-in-Ok-clause-finishes
returns-in-Ok-clause-finishes g c =
    put_ends _ _ _ _ c.in-Ok.ensures.cause.other c.in-Ok.ensures.cause.kept c.in-Ok.ensures.whole
    (rw (c.as_slice.ensures.value ∙ c.scripts_line-line.ensures) at c.put_report.ensures)

pub returns-in-Err-clause-finishes : goal.returns-in-Err-clause-finishes
returns-in-Err-clause-finishes g c =
    several_unwritten _ c.in-Err.at _ _ _ c.as_str.result.now c.in-Err.ensures.cause.other refl c.in-Err.ensures.cause.failed c.in-Err.ensures.failed
    (c.as_str.ensures.value ∙ named_failure c.args.files.now c.in-Err.at c.index-files-at.result _ _ c.in-Err.ensures.failed)
    c.say_cannot_write.ensures

pub returns-in-Err-clause-held : goal.returns-in-Err-clause-held
returns-in-Err-clause-held g c = λ was. absurd (three_undone was)
