use Rattle.std.proofs.Common.{ℕ, ◌^◌, ◌≡◌, Option, w32, SFits, pos, neg_ℤ, ◌≤ℤ◌, ℤ, lit<}
use Rattle.dx_tables.proofs.Ranges.{fits_from_Within}
use Rattle.std.specs.Prelude.{slice_index}
use Rattle.std.proofs.lemmas.Int.{to_z-of_z}
use Rattle.block_rates.specs.declared.pitch_envelope.PitchEnvelope.{PitchEnvelope}
use Rattle.block_rates.specs.Pitches.{PitchEnvelopeSettings, pitch_segment_at, pitch_motion, pitch_of, pitch_envelope_level}
use Rattle.block_rates.specs.PitchEnvelopes.{IsPitchEnvelope}
use Rattle.block_rates.proofs.StageTurns.{value_is}
use Rattle.block_rates.proofs.PitchSteps.{pitch_runs}
use Rattle.block_rates.proofs.pitch_envelope.PitchEnvelope.step.Goals as goal

fits : (z : ℤ) → neg_ℤ (pos (2 ^ 26)) ≤ℤ z → z ≤ℤ pos (2 ^ 26) → SFits w32 z
fits z low high = fits_from_Within w32 (2 ^ 26) z (record { low = low; high = high }) (lit< tt)

pub returns-clause-stands : goal.returns-clause-stands
returns-clause-stands c =
    let e = c.args.self.now in
    let before = to_z-of_z w32 e.level (fits e.level e.level_bound.0 e.level_bound.1) in
    let after = to_z-of_z w32 c.step-self.result (fits c.step-self.result c.step-self.ensures.bound.0 c.step-self.ensures.bound.1) in
    λ s k off h. record { stands = rw after (c.step-self.ensures.stands pitch_runs _ _ k off (rw before h.stands)) }

level_is : (e : PitchEnvelope) (s : PitchEnvelopeSettings) (k : ℕ) (off : Option ℕ) → IsPitchEnvelope e s k off → e.level ≡ pitch_envelope_level s k off
unfolding pitch_envelope_level
level_is e s k off h = value_is pitch_motion pitch_runs (pitch_of (slice_index s.levels 3)) (pitch_segment_at s) k off _ _ _ _ _ e.level h.stands

pub returns-clause-value : goal.returns-clause-value
returns-clause-value c =
    let f = fits c.step-self.result c.step-self.ensures.bound.0 c.step-self.ensures.bound.1 in
    let after = to_z-of_z w32 c.step-self.result f in
    λ s k off h. rw after (level_is _ s _ off (returns-clause-stands c s k off h))
