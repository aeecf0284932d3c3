use Rattle.std.proofs.Common.{ℕ, ◌≤◌, subst}
use Rattle.note_voice.proofs.Fields.{sensitivity_greatest}
use Rattle.note_voice.proofs.settings.amplitude_sensitivity.Goals as goal

pub returns-clause-within : goal.returns-clause-within
returns-clause-within c = subst (λ (n : ℕ). c.get.result ≤ n) (sensitivity_greatest c.args.operator c.requires.0 c.requires.1) c.get.ensures.within
