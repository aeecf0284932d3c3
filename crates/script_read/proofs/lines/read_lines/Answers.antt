use Rattle.std.proofs.Common.{◌≡◌, ◌++◌, ◌∷◌, [], List, ℕ, subst, arith}
use Rattle.script_read.specs.Lines.{ParsedLine, parsed}
use Rattle.script_read.specs.Outcomes.{outcomes_after, stream_of}
use Rattle.script_outcome.specs.ReaderAnswer.{Stops}
use Rattle.script_read.specs.TextSoFar.{IsAfter}
use Rattle.script_read.proofs.LineOutcomes.{within_none, within_more, stopped_at_line, stopped_at_last, settled_at_end}
use Rattle.script_outcome.proofs.Plans.{on_ok_more, on_err_more}
use Rattle.script_read.proofs.lines.read_lines.Goals as goal

pub loop-line-init : goal.loop-line-init
loop-line-init g c = record {
  order = c.in-Ok.ensures.order c.args.bounds.room;
  number = let is : c.in-Ok.progress.number ≡ 2 = c.in-Ok.ensures.number in omega arith;
  within = within_none c.in-Ok.progress c.args.bounds.blocks c.args.text.now (c.in-Ok.ensures.after c.args.bounds.blocks);
}

pub loop-line-preserved : goal.loop-line-preserved
loop-line-preserved g c =
    let w = c.loop-line.invariant.within in
    record {
      order = c.in-Ok-apply_line.ensures.order;
      number = omega (arith, c.in-Ok-apply_line.ensures.number, c.in-Some.ensures.shorter);
      within = within_more c.apply_line.new.progress c.args.bounds.blocks w.lines c.loop-line.rest.now c.in-Some.line.now c.in-Some.after.now c.args.text.now
          c.in-Some.ensures.cut w.split
          (subst (λ (l : List ℕ). IsAfter c.apply_line.new.progress c.args.bounds.blocks (w.lines ++ parsed l ∷ [])) c.without_return.ensures
          (c.in-Ok-apply_line.ensures.after w.lines w.after));
    }

pub returns-in-Err-apply_line : goal.returns-in-Err-apply_line
returns-in-Err-apply_line g c =
    let w = c.loop-line.invariant.within in
    stopped_at_line c.in-Err-apply_line.fault c.args.bounds.room c.args.bounds.blocks w.lines c.loop-line.rest.now c.in-Some.line.now c.in-Some.after.now
    c.args.text.now
    c.in-Some.ensures.cut w.split
    (subst (λ (l : List ℕ). Stops c.in-Err-apply_line.fault c.args.bounds.room (outcomes_after c.args.bounds.blocks [] (w.lines ++ parsed l ∷ [])))
    c.without_return.ensures
    (c.in-Err-apply_line.ensures.stops w.lines w.after))

pub returns-in-Ok-apply_line-2 : goal.returns-in-Ok-apply_line-2
returns-in-Ok-apply_line-2 g c =
    let w = c.loop-line.invariant.within in
    let now = c.apply_line-2.new.progress in
    let lines : List ParsedLine = w.lines ++ parsed c.loop-line.rest.now ∷ [] in
    let b : IsAfter now c.args.bounds.blocks lines = c.in-Ok-apply_line-2.ensures.after w.lines w.after in
    settled_at_end c.end.result now c.args.bounds.blocks c.args.bounds.room w.lines c.loop-line.rest.now c.args.text.now c.in_default.ensures.whole w.split b
    c.in-Ok-apply_line-2.ensures.order.few c.end.ensures.given (on_ok_more c.end.result c.end.ensures.whole (λ h. h (stream_of lines) b.reads))
    c.end.ensures.cut (on_err_more c.end.result c.end.ensures.unfinished (λ h. h (stream_of lines) b.reads))

pub returns-in-Err-apply_line-2 : goal.returns-in-Err-apply_line-2
returns-in-Err-apply_line-2 g c =
    let w = c.loop-line.invariant.within in
    stopped_at_last c.in-Err-apply_line-2.fault c.args.bounds.room c.args.bounds.blocks w.lines c.loop-line.rest.now c.args.text.now c.in_default.ensures.whole
    w.split
    (c.in-Err-apply_line-2.ensures.stops w.lines w.after)
