use Rattle.std.proofs.Common.{◌++◌, ◌∙◌, [], List, ℕ, sym, subst, ap, arith}
use Rattle.std.proofs.lemmas.List.{append-nil}
use Rattle.std.proofs.lemmas.Result.{err_from_is_err_and, IfOk-weaker}
use Rattle.take_files.specs.Chunks.{IsSeen, line_feeds}
use Rattle.take_files.specs.OrderSoFar.{lines_read}
use Rattle.take_files.proofs.Feeding.{cut_feeds, feeds_append, uncut_feeds}
use Rattle.take_files.proofs.Lines.{cut_text}
use Rattle.take_files.proofs.Standings.{ended}
use Rattle.take_files.proofs.reader.read_lines.Goals as goal

pub end_line-requires-clause-end : goal.end_line-requires-clause-end
end_line-requires-clause-end c = cut_feeds c.loop-end.rest.now c.in-Some.end.now c.in-Some.after.now c.in-Some.ensures.cut

pub returns-in_err-end_line-clause-refused : goal.returns-in_err-end_line-clause-refused
returns-in_err-end_line-clause-refused c =
    let p = err_from_is_err_and c.from_residual.result c.from_residual.ensures.1 in
    rw (p.1, p.2) (λ at kind e.
    subst (λ (bs : List ℕ). IsSeen bs at kind)
    (sym (c.loop-end.invariant.text ∙ ap (λ (bs : List ℕ). (lines_read c.loop-end.listing ++ c.loop-end.line.items) ++ bs)
    (cut_text 10 c.loop-end.rest.now c.in-Some.end.now c.in-Some.after.now c.in-Some.ensures.cut)))
    (c.in_err-end_line.ensures.refused at kind e c.in-Some.after.now))

pub loop-end-preserved : goal.loop-end-preserved
loop-end-preserved c = record {
  listing = c.in_ok-end_line.ensures.listing;
  line = ap line_feeds c.in_ok-end_line.ensures.line;
  text =
      c.loop-end.invariant.text
      ∙ ap (λ (bs : List ℕ). (lines_read c.loop-end.listing ++ c.loop-end.line.items) ++ bs)
      (cut_text 10 c.loop-end.rest.now c.in-Some.end.now c.in-Some.after.now c.in-Some.ensures.cut)
      ∙ ended (lines_read c.loop-end.listing ++ c.loop-end.line.items) c.in-Some.end.now c.in-Some.after.now (lines_read c.end_line.new.listing)
      c.end_line.new.line.items c.in_ok-end_line.ensures.text c.in_ok-end_line.ensures.line;
}

pub keep-requires-clause-bytes : goal.keep-requires-clause-bytes
keep-requires-clause-bytes c = uncut_feeds c.loop-end.rest.now c.in_default.ensures.whole

pub returns-clause-line : goal.returns-clause-line
returns-clause-line c =
    IfOk-weaker c.keep.result _ _ (λ ok kept.
    let count = ap line_feeds kept ∙ feeds_append c.loop-end.line.items c.loop-end.rest.now in
    omega (arith, count, c.loop-end.invariant.line, uncut_feeds c.loop-end.rest.now c.in_default.ensures.whole)) c.keep.ensures.kept

pub returns-clause-refused : goal.returns-clause-refused
returns-clause-refused c =
    λ at kind e.
    subst (λ (bs : List ℕ). IsSeen bs at kind)
    (sym (c.loop-end.invariant.text
    ∙ ap (λ (bs : List ℕ). (lines_read c.loop-end.listing ++ c.loop-end.line.items) ++ bs) (sym (append-nil c.loop-end.rest.now))))
    (c.keep.ensures.refused at kind e [])
