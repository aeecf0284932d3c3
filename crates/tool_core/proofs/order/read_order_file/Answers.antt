use Rattle.tool_core.proofs.Feeding.{order_read, order_reason, order_limit_reason}
use Rattle.tool_core.proofs.order.read_order_file.Goals as goal

pub returns-in-Ok-clause-good : goal.returns-in-Ok-clause-good
returns-in-Ok-clause-good g c = order_read c.judge_order.result (g.S.Shelf.files c.args.shelf.now) c.args.name.now _ c.in-Ok.ensures.fed
    c.judge_order.ensures.order

pub returns-in-Ok-clause-refused : goal.returns-in-Ok-clause-refused
returns-in-Ok-clause-refused g c =
    order_reason c.judge_order.result (g.S.Shelf.files c.args.shelf.now) c.args.name.now _ _ _ c.in-Ok.ensures.kept c.in-Ok.ensures.fed
    c.judge_order.ensures.read c.judge_order.ensures.refused

pub returns-in-Err-clause-refused : goal.returns-in-Err-clause-refused
returns-in-Err-clause-refused g c = order_limit_reason c.in-Err.why _ _ _ _ c.in-Err.ensures.refused
