use Rattle.std.proofs.Common.{sym, ◌∙◌}
use Rattle.script_read.proofs.EditNames.{true_and}
use Rattle.script_read.proofs.edit_line.is_name.Goals as goal

pub returns-then-is_short-clause-value : goal.returns-then-is_short-clause-value
returns-then-is_short-clause-value c = c.has_name_bytes.ensures ∙ true_and _ _ (sym c.is_short.ensures.value ∙ c.if-is_short.true)
