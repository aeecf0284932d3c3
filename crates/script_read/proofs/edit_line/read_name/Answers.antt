use Rattle.std.proofs.Common.{length, ap, sym, ◌-◌, ◌∙◌}
use Rattle.editor.specs.Names.{first_high}
use Rattle.script_read.proofs.EditNames.{filled_low}
use Rattle.script_read.proofs.edit_line.read_name.Goals as goal

pub returns-then-is_name-clause-sound : goal.returns-then-is_name-clause-sound
returns-then-is_name-clause-sound c =
    ap first_high c.filled.ensures ∙ filled_low _ c.args.text.now (10 - length c.args.text.now) (sym c.is_name.ensures.value ∙ c.if-is_name.true)
