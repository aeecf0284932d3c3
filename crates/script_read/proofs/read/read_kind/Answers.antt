use Rattle.std.proofs.Common.{◌∙◌, sym}
use Rattle.script_read.specs.Words.{lines_of}
use Rattle.script_read.proofs.Plans.{edit_settled, other_refused}
use Rattle.script_read.proofs.read.read_kind.Goals as goal

pub returns-then-is_word-2 : goal.returns-then-is_word-2
returns-then-is_word-2 g c =
    edit_settled c.read_edit_lines.result c.args.bounds.room c.args.bounds.blocks c.args.first.now (lines_of c.args.rest.now)
    (sym c.is_word.ensures ∙ c.if-is_word.false) (sym c.is_word-else-is_word.ensures ∙ c.if-is_word-2.true) c.read_edit_lines.ensures

pub returns-else-is_word-2 : goal.returns-else-is_word-2
returns-else-is_word-2 g c =
    other_refused c.at_first.result c.args.bounds.room c.args.bounds.blocks c.args.first.now (lines_of c.args.rest.now)
    (sym c.is_word.ensures ∙ c.if-is_word.false) (sym c.is_word-else-is_word.ensures ∙ c.if-is_word-2.false) c.at_first.ensures
