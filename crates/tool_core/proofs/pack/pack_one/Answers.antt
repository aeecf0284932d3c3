use Rattle.tool_core.proofs.Packs.{voice_set}
use Rattle.tool_core.proofs.pack.pack_one.Goals as goal

pub returns-in-Ok-clause-voice : goal.returns-in-Ok-clause-voice
returns-in-Ok-clause-voice g c =
    voice_set (g.S.Shelf.files c.args.shelf.now) c.args.file.now c.in-Ok.voice c.args.cartridge.now c.store.new.self c.args.slot c.store.ensures.voices
    c.in-Ok.ensures.value
