use Rattle.tool_core.proofs.Feeding.{no_order, as_error}
use Rattle.tool_core.proofs.order.judge_order.Goals as goal

pub returns-in-Err-Refused-clause-refused : goal.returns-in-Err-Refused-clause-refused
returns-in-Err-Refused-clause-refused c file fed within =
    c.failure_of.ensures.fault file (c.in-Err-Refused.ensures.refused file c.in-Err-Refused.line c.in-Err-Refused.kind fed
    (as_error _ _ _ c.in-Err-Refused.field-0-is))
    (λ o order. no_order _ c.in-Err-Refused.line c.in-Err-Refused.kind c.in-Err-Refused.field-0-is (c.in-Err-Refused.ensures.exact file o fed order)) within
