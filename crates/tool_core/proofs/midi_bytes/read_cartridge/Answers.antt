use Rattle.tool_core.specs.Refusals.{OneCartridge}
use Rattle.tool_core.proofs.Judging.{ok_good, ok_cartridge, err_reason, read_reason}
use Rattle.tool_core.proofs.midi_bytes.read_cartridge.Goals as goal

pub returns-in-Ok-clause-good : goal.returns-in-Ok-clause-good
returns-in-Ok-clause-good g c =
    ok_good c.find_cartridge.result OneCartridge (g.S.Shelf.files c.args.shelf.now) c.args.name.now c.in-Ok.file.items c.as_slice.result.now
    c.as_slice.ensures.value c.in-Ok.ensures.found c.in-Ok.ensures.within
    c.find_cartridge.ensures.good

pub returns-in-Ok-clause-value : goal.returns-in-Ok-clause-value
returns-in-Ok-clause-value g c =
    ok_cartridge c.find_cartridge.result (g.S.Shelf.files c.args.shelf.now) c.args.name.now c.in-Ok.file.items c.as_slice.result.now c.as_slice.ensures.value
    c.in-Ok.ensures.found
    c.find_cartridge.ensures.value

pub returns-in-Ok-clause-refused : goal.returns-in-Ok-clause-refused
returns-in-Ok-clause-refused g c =
    err_reason c.find_cartridge.result OneCartridge (g.S.Shelf.files c.args.shelf.now) c.args.name.now c.in-Ok.file.items c.as_slice.result.now _ _
    c.as_slice.ensures.value c.in-Ok.ensures.found c.in-Ok.ensures.within
    c.in-Ok.ensures.kept c.find_cartridge.ensures.refused

pub returns-in-Err-clause-refused : goal.returns-in-Err-clause-refused
returns-in-Err-clause-refused g c = read_reason c.in-Err.why OneCartridge _ _ _ _ c.in-Err.ensures.refused
