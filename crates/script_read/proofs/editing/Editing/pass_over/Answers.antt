use Rattle.std.proofs.Common.{refl}
use Rattle.script_read.proofs.EditOutcomes.{after_passed}
use Rattle.script_read.proofs.editing.Editing.pass_over.Goals as goal

pub returns-clause-after : goal.returns-clause-after
returns-clause-after c = λ blocks lines b. after_passed c.args.self.now _ blocks lines b refl refl refl refl
