use Rattle.std.proofs.Common.{[], ◌∙◌}
use Rattle.tool_core.specs.Refusals.{OneCartridge}
use Rattle.tool_core.specs.Inputs.{Midi, input}
use Rattle.tool_core.specs.Words.{ListVoices}
use Rattle.tool_core.specs.Effects.{prints}
use Rattle.tool_core.proofs.Endings.{performs, refuses, print_ends, one_good, first_fails, list_does}
use Rattle.tool_core.proofs.librarian.list.Goals as goal

pub returns-in-Ok : goal.returns-in-Ok
returns-in-Ok g c =
    performs (ListVoices c.args.file.now) _ _ _ (prints c.as_slice.result.now)
    (one_good (input c.args.file.now (Midi OneCartridge)) (g.S.Shelf.files c.args.shelf.now) c.in-Ok.ensures.good)
    (list_does (g.S.Shelf.files c.args.shelf.now) c.args.file.now c.as_slice.result.now _ (c.as_slice.ensures.value
    ∙ c.list_page-page.ensures) c.in-Ok.ensures.value)
    (print_ends c.as_slice.result.now _ _ _ c.in-Ok.ensures.kept c.read_cartridge.ensures.writing c.read_cartridge.ensures.files c.put_report.ensures)

pub returns-in-Err : goal.returns-in-Err
returns-in-Err g c =
    refuses (ListVoices c.args.file.now) c.in-Err.why c.args.file.now _ _ _
    (first_fails c.in-Err.why (Midi OneCartridge) [] (g.S.Shelf.files c.args.shelf.now) c.args.file.now _ _ c.in-Err.ensures.refused)
    c.refuse.ensures.status c.refuse.ensures.line c.read_cartridge.ensures.files c.read_cartridge.ensures.writing
