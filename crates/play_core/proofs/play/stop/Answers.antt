use Rattle.play_core.proofs.Failing.{later_more, later_write}
use Rattle.play_core.proofs.play.stop.Goals as goal

pub returns-in-Sound-clause-later : goal.returns-in-Sound-clause-later
returns-in-Sound-clause-later g c =
    later_more _ _ _
    (later_write c.write_out.result c.args.request.out.now _ _ c.write_out.ensures.failed_kept c.write_out.ensures.failed_name)
    (later_write c.write_out-2.result c.args.request.order.now _ _ c.write_out-2.ensures.failed_kept c.write_out-2.ensures.failed_name)

pub returns-in-Order-clause-later : goal.returns-in-Order-clause-later
returns-in-Order-clause-later g c =
    later_more _ _ _
    (later_write c.write_out.result c.args.request.out.now _ _ c.write_out.ensures.failed_kept c.write_out.ensures.failed_name)
    (later_write c.write_out-2.result c.args.request.order.now _ _ c.write_out-2.ensures.failed_kept c.write_out-2.ensures.failed_name)
