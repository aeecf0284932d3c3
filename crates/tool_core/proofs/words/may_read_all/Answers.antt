use Rattle.std.proofs.Common.{◌∙◌, sym, ap, List, ℕ}
use Rattle.tool_core.specs.Words.{may_read}
use Rattle.tool_core.proofs.EachName.{all_more, all_false}
use Rattle.tool_core.proofs.words.may_read_all.Goals as goal

pub loop-file-preserved : goal.loop-file-preserved
loop-file-preserved c =
    all_more (may_read c.args.out.now) c.args.files.now c.loop-file.file-index c.file-item.result c.loop-file-test.true c.file-item.is c.loop-file.invariant
    (ap (λ (n : List ℕ). may_read c.args.out.now n) (sym c.deref.ensures) ∙ sym c.may_read.ensures ∙ c.if-not-may_read.false)

pub returns-then-not-may_read : goal.returns-then-not-may_read
returns-then-not-may_read c =
    sym (all_false (may_read c.args.out.now) c.args.files.now c.loop-file.file-index c.file-item.result c.loop-file-test.true c.file-item.is
    (ap (λ (n : List ℕ). may_read c.args.out.now n) (sym c.deref.ensures) ∙ sym c.may_read.ensures ∙ c.if-not-may_read.true))
