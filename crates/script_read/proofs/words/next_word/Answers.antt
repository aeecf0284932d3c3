use Rattle.std.proofs.Common.{sym, ◌∙◌}
use Rattle.script_read.proofs.WordSplits.{is_none, is_some, nothing_after, text_first, text_last, text_skipped, word_skipped}
use Rattle.script_read.proofs.words.next_word.Goals as goal

pub returns-then-not-is_empty-clause-after : goal.returns-then-not-is_empty-clause-after
returns-then-not-is_empty-clause-after c =
    sym c.loop-word.invariant.text
    ∙ text_first c.loop-word.rest.now c.in-Some.word.now c.in-Some.after.now c.in-Some.ensures.cut
    (is_some _ c.is_empty.result c.is_empty.ensures c.if-not-is_empty.true)

pub loop-word-preserved : goal.loop-word-preserved
loop-word-preserved c = record {
  words = sym (word_skipped c.loop-word.rest.now c.in-Some.after.now c.in-Some.word.now c.in-Some.ensures.cut
      (is_none _ c.is_empty.result c.is_empty.ensures c.if-not-is_empty.false)) ∙ c.loop-word.invariant.words;
  text = sym (text_skipped c.loop-word.rest.now c.in-Some.after.now c.in-Some.word.now c.in-Some.ensures.cut
      (is_none _ c.is_empty.result c.is_empty.ensures c.if-not-is_empty.false)) ∙ c.loop-word.invariant.text;
}

pub returns-else-is_empty-clause-after : goal.returns-else-is_empty-clause-after
returns-else-is_empty-clause-after c =
    sym c.loop-word.invariant.text
    ∙ text_last c.loop-word.rest.now c.in_default.ensures.whole (is_some _ c.is_empty-2.result c.is_empty-2.ensures c.if-is_empty.false)
    ∙ sym (nothing_after _ c.loop-word.rest.now)
