use Rattle.std.proofs.Common.{◌++◌, List, [], ◌∷◌, refl, ap, sym, subst, ◌∙◌}
use Rattle.velocity_map.specs.declared.curve.Curve.{Curve}
use Rattle.script_outcome.specs.declared.fault.Place.TheVariants as place
use Rattle.script_outcome.specs.declared.fault.ScriptFault.{ScriptFault}
use Rattle.script_outcome.specs.Outcomes.{Outcome, fed_outcomes}
use Rattle.script_read.specs.Outcomes.{outcomes_after, line_after, stream_of}
use Rattle.script_read.specs.Lines.{Feeds}
use Rattle.script_outcome.specs.ReaderAnswer.{Stops, all_given}
use Rattle.script_read.proofs.LineOutcomes.{after_more, stops_line, stops_in_line, feed_outcomes, timed_some, timed_none}
use Rattle.script_read.proofs.progress.Progress.add_bytes.Goals as goal

pub returns-in-Some-clause-stops : goal.returns-in-Some-clause-stops
returns-in-Some-clause-stops g c = λ lines b.
    let p = c.args.self.now in
    let parsed = Feeds c.args.block c.args.bytes.now in
    subst (λ (why : ScriptFault). Stops why c.args.bounds.room (outcomes_after c.args.bounds.blocks [] (lines ++ parsed ∷ []))) (sym c.refused.ensures)
    (stops_line p c.args.bounds.blocks c.args.bounds.room lines parsed c.in-Some.kind b c.requires.order.few
    (feed_outcomes p c.args.bounds.blocks lines c.args.block c.args.bytes.now b
    ∙ timed_some _ (line_after lines) _ c.in-Some.kind (sym c.fault_of_block.ensures ∙ c.in-Some.is)))

pub returns-in-Ok-clause-after : goal.returns-in-Ok-clause-after
returns-in-Ok-clause-after g c = λ lines b.
    let p = c.args.self.now in
    let bytes = c.args.bytes.now in
    after_more p _ c.args.bounds.blocks lines (Feeds c.args.block bytes) b (c.in-Ok.ensures.reads (stream_of lines) b.reads) refl refl refl refl
    (c.in-Ok.ensures.given (stream_of lines) b.reads
    ∙ ap (λ (x : Curve). all_given p.feed.script ++ fed_outcomes (λ before. place.Line p.number) c.args.block x (stream_of lines) bytes) c.map-map.ensures
    ∙ ap (λ (os : List Outcome). all_given p.feed.script ++ os) (sym (feed_outcomes p c.args.bounds.blocks lines c.args.block bytes b
    ∙ timed_none _ (line_after lines) _ (sym c.fault_of_block.ensures ∙ c.in-None.is))))

pub returns-in-Err-clause-stops : goal.returns-in-Err-clause-stops
returns-in-Err-clause-stops g c = λ lines b.
    let p = c.args.self.now in
    let bytes = c.args.bytes.now in
    stops_in_line p c.args.bounds.blocks c.args.bounds.room lines (Feeds c.args.block bytes) c.in-Err.fault b
    (subst (λ (os : List Outcome). Stops c.in-Err.fault c.args.bounds.room os)
    (ap (λ (x : Curve). all_given p.feed.script ++ fed_outcomes (λ before. place.Line p.number) c.args.block x (stream_of lines) bytes) c.map-map.ensures
    ∙ ap (λ (os : List Outcome). all_given p.feed.script ++ os) (sym (feed_outcomes p c.args.bounds.blocks lines c.args.block bytes b
    ∙ timed_none _ (line_after lines) _ (sym c.fault_of_block.ensures ∙ c.in-None.is))))
    (c.in-Err.ensures.stops (stream_of lines) b.reads))
