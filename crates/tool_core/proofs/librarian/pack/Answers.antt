use Rattle.std.proofs.Common.{◌≡◌, ◌<◌, length, map, string_bytes, arith}
use Rattle.tool_core.specs.Words.{Pack}
use Rattle.tool_core.specs.Effects.{writes}
use Rattle.tool_core.proofs.Endings.{performs, refuses, read_first}
use Rattle.tool_core.proofs.Packs.{count_names, pack_does, pack_fails}
use Rattle.tool_core.proofs.Held.{failed_undone}
use Rattle.tool_core.proofs.librarian.pack.Goals as goal

pub returns-in-Ok-clause-ends : goal.returns-in-Ok-clause-ends
returns-in-Ok-clause-ends g c =
    performs (Pack c.args.name.now (map string_bytes c.args.files.now)) _ _ _ (writes c.args.name.now c.as_slice.result.now)
    c.in-Ok.ensures.good
    (pack_does (g.S.Shelf.files c.args.shelf.now) c.args.name.now c.as_slice.result.now c.in-Ok.message.items (map string_bytes c.args.files.now)
    c.as_slice.ensures.value c.in-Ok.ensures.message)
    (read_first (writes c.args.name.now c.as_slice.result.now) _ _ _ _ _ _ _ _ _ _ c.read_pack.ensures.files c.in-Ok.ensures.kept c.read_pack.ensures.writing
    c.finish.ensures.finishes)

pub returns-in-Err-clause-ends : goal.returns-in-Err-clause-ends
returns-in-Err-clause-ends g c =
    let count : length (map string_bytes c.args.files.now) ≡ length c.args.files.now = count_names c.args.files.now in
    let below : c.in-Err.failure.place < length (map string_bytes c.args.files.now) = omega (arith, c.in-Err.ensures.place) in
    refuses (Pack c.args.name.now (map string_bytes c.args.files.now)) c.in-Err.failure.why c.name_at-file.result.now _ _ _
    (pack_fails c.in-Err.failure.why c.in-Err.failure.place (g.S.Shelf.files c.args.shelf.now) (map string_bytes c.args.files.now) c.name_at-file.result.now _ _
    below c.name_at-file.ensures
    c.in-Err.ensures.refused)
    c.refuse.ensures.status c.refuse.ensures.line c.read_pack.ensures.files c.read_pack.ensures.writing

pub returns-in-Err-clause-held : goal.returns-in-Err-clause-held
returns-in-Err-clause-held g c = λ was. absurd (failed_undone c.in-Err.failure.why c.refuse.result c.refuse.ensures.status was)
