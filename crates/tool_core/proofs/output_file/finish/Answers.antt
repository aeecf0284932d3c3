use Rattle.std.proofs.Common.{refl}
use Rattle.tool_core.proofs.Endings.{write_ends, unwritten_ends}
use Rattle.tool_core.proofs.Held.{three_undone}
use Rattle.tool_core.proofs.output_file.finish.Goals as goal

pub returns-in-Ok-clause-finishes : goal.returns-in-Ok-clause-finishes
returns-in-Ok-clause-finishes g c = write_ends c.args.name.now c.args.text.now _ _ _ c.in-Ok.ensures.cause.other c.in-Ok.ensures.cause.kept
    c.in-Ok.ensures.whole c.put_ok.ensures

pub returns-in-Err-clause-finishes : goal.returns-in-Err-clause-finishes
returns-in-Err-clause-finishes g c =
    unwritten_ends c.args.name.now c.args.text.now _ _ _ c.in-Err.ensures.cause.other refl c.in-Err.ensures.cause.failed c.in-Err.ensures.begun
    c.say_cannot_write.ensures

pub returns-in-Err-clause-held : goal.returns-in-Err-clause-held
returns-in-Err-clause-held g c = λ was. absurd (three_undone was)
