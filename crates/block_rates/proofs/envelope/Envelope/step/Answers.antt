use Rattle.std.proofs.Common.{ℕ, ◌≡◌, ◌<◌, ◌^◌, Option, ◌∙◌, ap, pos, w32, arith}
use Rattle.std.proofs.lemmas.Int.{to_z_pos}
use Rattle.block_rates.specs.declared.envelope.Envelope.{Envelope}
use Rattle.block_rates.specs.Levels.{EnvelopeSettings, level_segment_at, level_motion, envelope_level}
use Rattle.block_rates.specs.Envelopes.{IsEnvelope}
use Rattle.block_rates.proofs.StageTurns.{value_is}
use Rattle.block_rates.proofs.LevelSteps.{level_runs}
use Rattle.block_rates.proofs.envelope.Envelope.step.Goals as goal

pub returns-clause-stands : goal.returns-clause-stands
returns-clause-stands c = λ s k off h. record { stands = c.step-self.ensures.stands level_runs _ _ k off h.stands }

level_is : (e : Envelope) (s : EnvelopeSettings) (k : ℕ) (off : Option ℕ) → IsEnvelope e s k off → e.level ≡ envelope_level s k off
unfolding envelope_level
level_is e s k off h = value_is level_motion level_runs 0 (level_segment_at s) k off _ _ _ _ _ e.level h.stands

pub returns-clause-value : goal.returns-clause-value
returns-clause-value c =
    let small : c.step-self.result < 2 ^ 31 = omega (arith, c.step-self.ensures.bound) in
    λ s k off h. to_z_pos w32 c.step-self.result small ∙ ap pos (level_is _ s _ off (returns-clause-stands c s k off h))
