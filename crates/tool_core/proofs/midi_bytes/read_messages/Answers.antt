use Rattle.std.proofs.Common.{refl}
use Rattle.tool_core.specs.Refusals.{AllMessages}
use Rattle.tool_core.proofs.Judging.{ok_good, err_reason, read_reason}
use Rattle.tool_core.proofs.midi_bytes.read_messages.Goals as goal

pub returns-in-Ok-clause-good : goal.returns-in-Ok-clause-good
returns-in-Ok-clause-good g c =
    ok_good c.check_file.result AllMessages (g.S.Shelf.files c.args.shelf.now) c.args.name.now c.in-Ok.file.items c.in-Ok.file.items refl c.in-Ok.ensures.found
    c.in-Ok.ensures.within
    c.check_file.ensures.good

pub returns-in-Ok-clause-refused : goal.returns-in-Ok-clause-refused
returns-in-Ok-clause-refused g c =
    err_reason c.check_file.result AllMessages (g.S.Shelf.files c.args.shelf.now) c.args.name.now c.in-Ok.file.items c.in-Ok.file.items _ _ refl
    c.in-Ok.ensures.found c.in-Ok.ensures.within
    c.in-Ok.ensures.kept c.check_file.ensures.refused

pub returns-in-Err-clause-refused : goal.returns-in-Err-clause-refused
returns-in-Err-clause-refused g c = read_reason c.in-Err.why AllMessages _ _ _ _ c.in-Err.ensures.refused
