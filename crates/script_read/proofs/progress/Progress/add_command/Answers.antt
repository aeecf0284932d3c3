use Rattle.std.proofs.Common.{◌≡◌, ◌++◌, List, [], ◌∷◌, refl, ap, sym, subst, ◌∙◌, append-nil}
use Rattle.velocity_map.specs.declared.curve.Curve.{Curve}
use Rattle.command_set.specs.Command.{CommandData, content}
use Rattle.script_plan.specs.Plan.{planned_at}
use Rattle.script_outcome.specs.declared.fault.ScriptFault.{ScriptFault}
use Rattle.script_outcome.specs.Outcomes.{Outcome, Gives}
use Rattle.script_read.specs.Outcomes.{curved, outcomes_after, line_after}
use Rattle.script_read.specs.Lines.{Orders}
use Rattle.script_outcome.specs.ReaderAnswer.{Stops, all_given}
use Rattle.script_read.proofs.LineOutcomes.{after_more, stops_line, stops_in_line, order_outcomes, timed_some, timed_none}
use Rattle.script_read.proofs.progress.Progress.add_command.Goals as goal

pub returns-in-Some-clause-stops : goal.returns-in-Some-clause-stops
returns-in-Some-clause-stops g c = λ lines b.
    let p = c.args.self.now in
    let parsed = Orders c.args.block (content c.args.command) in
    subst (λ (why : ScriptFault). Stops why c.args.bounds.room (outcomes_after c.args.bounds.blocks [] (lines ++ parsed ∷ []))) (sym c.refused.ensures)
    (stops_line p c.args.bounds.blocks c.args.bounds.room lines parsed c.in-Some.kind b c.requires.order.few
    (order_outcomes p c.args.bounds.blocks lines c.args.block (content c.args.command) b
    ∙ timed_some _ (line_after lines) _ c.in-Some.kind (sym c.fault_of_block.ensures ∙ c.in-Some.is)))

pub returns-in-Ok-clause-after : goal.returns-in-Ok-clause-after
returns-in-Ok-clause-after g c = λ lines b.
    let p = c.args.self.now in
    let command = content c.args.command in
    let same : content c.on_curve-command.result ≡ curved p.curve command = c.on_curve-command.ensures.curved
    ∙ ap (λ (x : Curve). curved x command) c.map.ensures in
    after_more p _ c.args.bounds.blocks lines (Orders c.args.block command) b (rw append-nil b.reads) refl refl refl refl
    (c.in-Ok.ensures.given
    ∙ ap (λ (d : CommandData). all_given p.feed.script ++ Gives (planned_at c.args.block d) ∷ []) same
    ∙ ap (λ (os : List Outcome). all_given p.feed.script ++ os) (sym (order_outcomes p c.args.bounds.blocks lines c.args.block command b
    ∙ timed_none _ (line_after lines) _ (sym c.fault_of_block.ensures ∙ c.in-None.is))))

pub returns-in-Err-clause-stops : goal.returns-in-Err-clause-stops
returns-in-Err-clause-stops g c = λ lines b.
    let p = c.args.self.now in
    let command = content c.args.command in
    let same : content c.on_curve-command.result ≡ curved p.curve command = c.on_curve-command.ensures.curved
    ∙ ap (λ (x : Curve). curved x command) c.map.ensures in
    stops_in_line p c.args.bounds.blocks c.args.bounds.room lines (Orders c.args.block command) c.in-Err.fault b
    (subst (λ (os : List Outcome). Stops c.in-Err.fault c.args.bounds.room os)
    (ap (λ (d : CommandData). all_given p.feed.script ++ Gives (planned_at c.args.block d) ∷ []) same
    ∙ ap (λ (os : List Outcome). all_given p.feed.script ++ os) (sym (order_outcomes p c.args.bounds.blocks lines c.args.block command b
    ∙ timed_none _ (line_after lines) _ (sym c.fault_of_block.ensures ∙ c.in-None.is))))
    c.in-Err.ensures.stops)
