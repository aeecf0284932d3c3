use Rattle.std.proofs.Common.{[]}
use Rattle.tool_core.specs.Refusals.{OneCartridge}
use Rattle.tool_core.specs.Inputs.{Midi, input}
use Rattle.tool_core.specs.Words.{Pick}
use Rattle.tool_core.specs.Effects.{writes}
use Rattle.tool_core.proofs.Endings.{performs, refuses, read_first, one_good, first_fails, pick_does}
use Rattle.tool_core.proofs.Held.{failed_undone}
use Rattle.tool_core.proofs.librarian.pick.Goals as goal

pub returns-in-Ok-clause-ends : goal.returns-in-Ok-clause-ends
returns-in-Ok-clause-ends g c =
    performs (Pick c.args.file.now c.args.slot c.args.name.now) _ _ _ (writes c.args.name.now c.write_voice-message.result)
    (one_good (input c.args.file.now (Midi OneCartridge)) (g.S.Shelf.files c.args.shelf.now) c.in-Ok.ensures.good)
    (pick_does (g.S.Shelf.files c.args.shelf.now) c.args.file.now c.args.slot c.args.name.now c.write_voice-message.result _ c.voice.result
    c.in-Ok.ensures.value c.voice.ensures.value c.write_voice-message.ensures.frame)
    (read_first (writes c.args.name.now c.write_voice-message.result) _ _ _ _ _ _ _ _ _ _ c.read_cartridge.ensures.files c.in-Ok.ensures.kept
    c.read_cartridge.ensures.writing c.finish.ensures.finishes)

pub returns-in-Err-clause-ends : goal.returns-in-Err-clause-ends
returns-in-Err-clause-ends g c =
    refuses (Pick c.args.file.now c.args.slot c.args.name.now) c.in-Err.why c.args.file.now _ _ _
    (first_fails c.in-Err.why (Midi OneCartridge) [] (g.S.Shelf.files c.args.shelf.now) c.args.file.now _ _ c.in-Err.ensures.refused)
    c.refuse.ensures.status c.refuse.ensures.line c.read_cartridge.ensures.files c.read_cartridge.ensures.writing

pub returns-in-Err-clause-held : goal.returns-in-Err-clause-held
returns-in-Err-clause-held g c = λ was. absurd (failed_undone c.in-Err.why c.refuse.result c.refuse.ensures.status was)
