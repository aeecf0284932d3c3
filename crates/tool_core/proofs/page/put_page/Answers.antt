use Rattle.tool_core.proofs.Paging.{page_put, page_failed}
use Rattle.tool_core.proofs.page.put_page.Goals as goal

pub returns-in-Ok-clause-ok : goal.returns-in-Ok-clause-ok
returns-in-Ok-clause-ok g c before text p =
    page_put before (g.O.Out.written c.args.out.now) (g.O.Out.written c.put_all.new.out) c.args.page.now.items c.as_slice.result.now text
    c.as_slice.ensures.value c.in-Ok.ensures.all p

pub returns-in-Err-clause-err : goal.returns-in-Err-clause-err
returns-in-Err-clause-err g c before text p =
    page_failed before (g.O.Out.written c.args.out.now) (g.O.Out.written c.put_all.new.out) c.args.page.now.items c.as_slice.result.now text
    c.as_slice.ensures.value c.in-Err.ensures.some p
