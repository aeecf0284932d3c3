use Rattle.std.proofs.Common.{◌≡◌, ◌++◌, ◌∷◌, [], List, ℕ, subst, arith}
use Rattle.script_read.specs.EditLines.{parsed_edit}
use Rattle.script_read.specs.Edits.{edits_after}
use Rattle.script_read.specs.EditsSoFar.{IsEditing}
use Rattle.script_outcome.specs.ReaderAnswer.{Stops}
use Rattle.script_read.proofs.EditOutcomes.{within_none, within_more, stopped_at_line, stopped_at_last, settled_at_end}
use Rattle.script_read.proofs.edit_lines.read_edit_lines.Goals as goal

pub loop-line-init : goal.loop-line-init
loop-line-init c = record {
  order = c.in-Ok.ensures.order c.args.bounds.room;
  number = let is : c.in-Ok.editing.number ≡ 2 = c.in-Ok.ensures.number in omega arith;
  within = within_none c.in-Ok.editing c.args.bounds.blocks c.args.text.now (c.in-Ok.ensures.after c.args.bounds.blocks);
}

pub loop-line-preserved : goal.loop-line-preserved
loop-line-preserved c =
    let w = c.loop-line.invariant.within in
    record {
      order = c.in-Ok-apply_line.ensures.order;
      number = omega (arith, c.in-Ok-apply_line.ensures.number, c.in-Some.ensures.shorter);
      within = within_more c.apply_line.new.editing c.args.bounds.blocks w.lines c.loop-line.rest.now c.in-Some.line.now c.in-Some.after.now c.args.text.now
          c.in-Some.ensures.cut w.split
          (subst (λ (l : List ℕ). IsEditing c.apply_line.new.editing c.args.bounds.blocks (w.lines ++ parsed_edit l ∷ [])) c.without_return.ensures
          (c.in-Ok-apply_line.ensures.after w.lines w.after));
    }

pub returns-in-Err-apply_line : goal.returns-in-Err-apply_line
returns-in-Err-apply_line c =
    let w = c.loop-line.invariant.within in
    stopped_at_line c.in-Err-apply_line.fault c.args.bounds.room c.args.bounds.blocks w.lines c.loop-line.rest.now c.in-Some.line.now c.in-Some.after.now
    c.args.text.now
    c.in-Some.ensures.cut w.split
    (subst (λ (l : List ℕ). Stops c.in-Err-apply_line.fault c.args.bounds.room (edits_after c.args.bounds.blocks [] (w.lines ++ parsed_edit l ∷ [])))
    c.without_return.ensures
    (c.in-Err-apply_line.ensures.stops w.lines w.after))

pub returns-in-Ok-apply_line-2 : goal.returns-in-Ok-apply_line-2
returns-in-Ok-apply_line-2 c =
    let w = c.loop-line.invariant.within in
    let now = c.apply_line-2.new.editing in
    let b : IsEditing now c.args.bounds.blocks (w.lines ++ parsed_edit c.loop-line.rest.now ∷ []) = c.in-Ok-apply_line-2.ensures.after w.lines w.after in
    settled_at_end now c.args.bounds.blocks c.args.bounds.room w.lines c.loop-line.rest.now c.args.text.now c.in_default.ensures.whole w.split b
    c.in-Ok-apply_line-2.ensures.order.few

pub returns-in-Err-apply_line-2 : goal.returns-in-Err-apply_line-2
returns-in-Err-apply_line-2 c =
    let w = c.loop-line.invariant.within in
    stopped_at_last c.in-Err-apply_line-2.fault c.args.bounds.room c.args.bounds.blocks w.lines c.loop-line.rest.now c.args.text.now c.in_default.ensures.whole
    w.split
    (c.in-Err-apply_line-2.ensures.stops w.lines w.after)
