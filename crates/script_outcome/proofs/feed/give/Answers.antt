use Rattle.std.proofs.Common.{◌≡◌, ap, ◌∙◌, arith}
use Rattle.script_plan.specs.Plan.{last_due}
use Rattle.script_outcome.proofs.Plans.{many, last_due_more}
use Rattle.script_outcome.proofs.feed.give.Goals as goal

pub returns-then-len-room-clause-stops : goal.returns-then-len-room-clause-stops
returns-then-len-room-clause-stops c = λ more. many c.args.room c.args.script.now _ more (omega arith)

pub returns-in-Ok-clause-due : goal.returns-in-Ok-clause-due
returns-in-Ok-clause-due c =
    let is : last_due c.push.new.self ≡ c.args.block = ap last_due c.in-Ok.ensures.ok ∙ last_due_more 0 c.args.script.now _ in omega arith
