use Rattle.std.proofs.Common.{Err, ap}
use Rattle.script_read.proofs.EditNames.{no_place}
use Rattle.script_read.proofs.editing.rename.Goals as goal

pub unreachable-requires : goal.unreachable-requires
unreachable-requires c =
    no_place c.in-Err-NameByte.field-0-0 c.requires ((c.in-Err-NameByte.ensures.high c.in-Err-NameByte.field-0-0).0 (ap Err c.in-Err-NameByte.field-0-is))
