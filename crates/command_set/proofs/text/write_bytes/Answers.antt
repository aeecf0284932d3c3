use Rattle.command_set.proofs.Writing.{bytes_room}
use Rattle.command_set.proofs.text.write_bytes.Goals as goal

pub returns-clause-room : goal.returns-clause-room
returns-clause-room c =
    bytes_room c.args.into.now.items c.args.kind.now c.args.bytes.now c.push_text.new.into.items c.push_text-2.new.into.items c.push_hex.new.into.items
    c.requires.room c.requires.kind c.requires.bytes c.push_text.ensures c.push_text-2.ensures c.push_hex.ensures
