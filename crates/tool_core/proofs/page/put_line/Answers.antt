use Rattle.tool_core.proofs.Paging.{line_added}
use Rattle.tool_core.proofs.page.put_line.Goals as goal

pub returns-in-Ok-clause-ok : goal.returns-in-Ok-clause-ok
returns-in-Ok-clause-ok g c before text p =
    line_added before (g.O.Out.written c.make_room.new.out) c.make_room.new.page.items c.add.new.page.items text c.args.line.now c.add.ensures
    (c.in-Ok.ensures.ok before text p)
