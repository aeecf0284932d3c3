use Rattle.std.proofs.Common.{refl, ap, ◌∙◌}
use Rattle.editor.specs.History.{begun}
use Rattle.script_read.proofs.EditOutcomes.{after_none}
use Rattle.script_read.proofs.editing.Editing.new.Goals as goal

pub returns-in-Ok-clause-after : goal.returns-in-Ok-clause-after
returns-in-Ok-clause-after c = λ blocks. after_none _ blocks (c.in-Ok.ensures
    ∙ ap (λ voice. begun voice 100) c.init.ensures.value) c.new-in-Ok.ensures refl refl
