use Rattle.std.proofs.Common.{[]}
use Rattle.tool_core.specs.Refusals.{AllMessages}
use Rattle.tool_core.specs.Inputs.{Midi, input}
use Rattle.tool_core.specs.Words.{Check}
use Rattle.tool_core.specs.Effects.{prints}
use Rattle.tool_core.specs.Lines.{check_report}
use Rattle.tool_core.proofs.Endings.{performs, refuses, print_ends, one_good, first_fails, check_does}
use Rattle.tool_core.proofs.librarian.check.Goals as goal

pub returns-in-Ok : goal.returns-in-Ok
returns-in-Ok g c =
    performs (Check c.args.file.now) _ _ _ (prints (check_report c.as_slice.result.now))
    (one_good (input c.args.file.now (Midi AllMessages)) (g.S.Shelf.files c.args.shelf.now) c.in-Ok.ensures.good)
    (check_does (g.S.Shelf.files c.args.shelf.now) c.args.file.now c.in-Ok.checked.file.items c.as_slice.result.now c.as_slice.ensures.value
    c.in-Ok.ensures.found)
    (print_ends (check_report c.as_slice.result.now) _ _ _ c.in-Ok.ensures.kept c.read_messages.ensures.writing c.read_messages.ensures.files
    c.put_check.ensures)

pub returns-in-Err : goal.returns-in-Err
returns-in-Err g c =
    refuses (Check c.args.file.now) c.in-Err.why c.args.file.now _ _ _
    (first_fails c.in-Err.why (Midi AllMessages) [] (g.S.Shelf.files c.args.shelf.now) c.args.file.now _ _ c.in-Err.ensures.refused)
    c.refuse.ensures.status c.refuse.ensures.line c.read_messages.ensures.files c.read_messages.ensures.writing
