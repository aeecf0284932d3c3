use Rattle.std.proofs.Common.{◌∙◌}
use Rattle.outside.proofs.Shelves.{appended_none}
use Rattle.outside.proofs.whole.write_out.Goals as goal

pub returns-in-Ok-clause-files : goal.returns-in-Ok-clause-files
returns-in-Ok-clause-files g c = c.in-Ok.ensures.added ∙ appended_none _ _ _ (λ lacks. absurd (let none = c.in-Ok.ensures.lacks lacks in cc))
