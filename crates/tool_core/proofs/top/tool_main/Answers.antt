use Rattle.tool_core.specs.Words.{request_data}
use Rattle.tool_core.proofs.Clauses.{status_clause, never_one, done_clause, seven_clause, unread_clause, unwritten_clause, refused_clause}
use Rattle.tool_core.proofs.Clauses.{limit_clause, memory_clause, reads_clause, writes_clause, puts_clause, untouched_clause, judged_clause}
use Rattle.tool_core.proofs.Clauses.{complete_clause, known, not_none, if_none, seven_known}
use Rattle.tool_core.proofs.top.tool_main.Goals as goal

pub returns-in-Some-clause-status : goal.returns-in-Some-clause-status
returns-in-Some-clause-status g c = status_clause _ _ _ _ c.run.ensures.ends

pub returns-in-Some-clause-done : goal.returns-in-Some-clause-done
returns-in-Some-clause-done g c = λ was. known _ (request_data c.in-Some.request) _ c.in-Some.ensures.request (done_clause _ _ _ _ c.run.ensures.ends was)

pub returns-in-Some-clause-different : goal.returns-in-Some-clause-different
returns-in-Some-clause-different g c = λ is. seven_known (request_data c.in-Some.request) _ c.in-Some.ensures.request
    (seven_clause _ _ _ _ c.run.ensures.ends is)

pub returns-in-Some-clause-words : goal.returns-in-Some-clause-words
returns-in-Some-clause-words g c = (
  λ is. absurd (never_one _ _ _ _ c.run.ensures.ends is),
  λ nothing.
      absurd (not_none (request_data c.in-Some.request) _ c.in-Some.ensures.request nothing),
)

pub returns-in-Some-clause-unread : goal.returns-in-Some-clause-unread
returns-in-Some-clause-unread g c = λ is. known _ (request_data c.in-Some.request) _ c.in-Some.ensures.request (unread_clause _ _ _ _ c.run.ensures.ends is)

pub returns-in-Some-clause-unwritten : goal.returns-in-Some-clause-unwritten
returns-in-Some-clause-unwritten g c = λ is. known _ (request_data c.in-Some.request) _ c.in-Some.ensures.request
    (unwritten_clause _ _ _ _ c.run.ensures.ends is)

pub returns-in-Some-clause-refused : goal.returns-in-Some-clause-refused
returns-in-Some-clause-refused g c = λ is. known _ (request_data c.in-Some.request) _ c.in-Some.ensures.request (refused_clause _ _ _ _ c.run.ensures.ends is)

pub returns-in-Some-clause-past_limit : goal.returns-in-Some-clause-past_limit
returns-in-Some-clause-past_limit g c = λ is. known _ (request_data c.in-Some.request) _ c.in-Some.ensures.request (limit_clause _ _ _ _ c.run.ensures.ends is)

pub returns-in-Some-clause-judged : goal.returns-in-Some-clause-judged
returns-in-Some-clause-judged g c = known _ (request_data c.in-Some.request) _ c.in-Some.ensures.request
    (judged_clause _ _ _ _ _ _ _ _ _ _ _ _ c.run.ensures.ends)

pub returns-in-Some-clause-reads : goal.returns-in-Some-clause-reads
returns-in-Some-clause-reads g c = reads_clause _ _ _ _ c.run.ensures.ends

pub returns-in-Some-clause-writes : goal.returns-in-Some-clause-writes
returns-in-Some-clause-writes g c = writes_clause _ _ _ _ c.run.ensures.ends

pub returns-in-Some-clause-puts : goal.returns-in-Some-clause-puts
returns-in-Some-clause-puts g c = puts_clause _ _ _ _ c.run.ensures.ends

pub returns-in-Some-clause-untouched : goal.returns-in-Some-clause-untouched
returns-in-Some-clause-untouched g c = untouched_clause _ _ _ _ c.run.ensures.ends

pub returns-in-Some-clause-usage : goal.returns-in-Some-clause-usage
returns-in-Some-clause-usage g c = λ is. absurd (never_one _ _ _ _ c.run.ensures.ends is)

pub returns-in-Some-clause-memory : goal.returns-in-Some-clause-memory
returns-in-Some-clause-memory g c = memory_clause _ _ _ _ c.run.ensures.ends

pub returns-in-Some-clause-complete : goal.returns-in-Some-clause-complete
returns-in-Some-clause-complete g c = known _ (request_data c.in-Some.request) _ c.in-Some.ensures.request
    (complete_clause _ _ _ _ _ _ _ _ _ _ _ _ c.run.ensures.ends)

pub returns-in-None-clause-judged : goal.returns-in-None-clause-judged
returns-in-None-clause-judged g c = if_none _ _ c.in-None.ensures.request

pub returns-in-None-clause-complete : goal.returns-in-None-clause-complete
returns-in-None-clause-complete g c = if_none _ _ c.in-None.ensures.request

pub returns-in-Some-clause-whole : goal.returns-in-Some-clause-whole
returns-in-Some-clause-whole g c = λ was. known _ (request_data c.in-Some.request) _ c.in-Some.ensures.request (c.run.ensures.whole was)

pub returns-in-Some-clause-written_out : goal.returns-in-Some-clause-written_out
returns-in-Some-clause-written_out g c = λ was. known _ (request_data c.in-Some.request) _ c.in-Some.ensures.request (c.run.ensures.written_out was)
