use Rattle.std.proofs.Common.{List, ◌≤◌, subst, ap, sym}
use Rattle.script_plan.specs.Plan.{PlannedData, last_due}
use Rattle.script_plan.proofs.Plans.{plan_pushed}
use Rattle.script_plan.proofs.script.Script.push.Goals as goal

pub invariant_of-self : goal.invariant_of-self
invariant_of-self c =
    plan_pushed c.self.inside.commands.items c.push_back.new.self.items _ _ c.push_back.ensures.items c.self.invariant
    (subst (λ (plan : List PlannedData). last_due plan ≤ c.args.due) (sym c.self.view_is) c.requires.due) c.ranges.due.fits c.requires.command

pub returns-clause-plan : goal.returns-clause-plan
returns-clause-plan c = invariant_of-self c
