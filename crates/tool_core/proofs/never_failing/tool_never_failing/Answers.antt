use Rattle.tool_core.proofs.NeverFailing.{only_report, never_two, never_three, not_unread, put_failed}
use Rattle.tool_core.proofs.never_failing.tool_never_failing.Goals as goal

pub returns-clause-status : goal.returns-clause-status
returns-clause-status g c = never_two _ c.tool_main.ensures.status (not_unread _ _ _ _ _ _ c.tool_main.ensures.unread c.tool_main.ensures.words)

pub returns-clause-sure : goal.returns-clause-sure
returns-clause-sure g c = λ no_fault.
    never_three _ (never_two _ c.tool_main.ensures.status (not_unread _ _ _ _ _ _ c.tool_main.ensures.unread c.tool_main.ensures.words))
    (λ three. no_fault (put_failed _ _ _ _ _ _ c.tool_main.ensures.unwritten c.tool_main.ensures.words three))

pub returns-clause-report : goal.returns-clause-report
returns-clause-report g c = λ is. only_report _ _ _ _ _ (c.tool_main.ensures.unwritten is)
