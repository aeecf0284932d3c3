use Rattle.std.proofs.Common.{refl}
use Rattle.script_read.proofs.LineOutcomes.{after_none}
use Rattle.script_read.proofs.progress.Progress.new.Goals as goal

pub returns-in-Ok-clause-after : goal.returns-in-Ok-clause-after
returns-in-Ok-clause-after c = λ blocks. after_none _ blocks c.in-Ok.ensures.reads c.in-Ok.ensures.script refl refl refl refl
