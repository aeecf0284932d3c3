-- When a pitch envelope is one with given settings.
use Rattle.std.specs.Prelude.{ℕ, Option, slice_index}
use Rattle.block_rates.specs.declared.pitch_envelope.PitchEnvelope.{PitchEnvelope}
use Rattle.block_rates.specs.StageOrder.{IsAt}
use Rattle.block_rates.specs.Pitches.{PitchEnvelopeSettings, pitch_of, pitch_segment_at, pitch_motion}

-- the pitch envelope has these settings, after k steps, released after `off` of them or not yet
pub record IsPitchEnvelope (e : PitchEnvelope) (s : PitchEnvelopeSettings) (k : ℕ) (off : Option ℕ) : Type 0 where
  pub stands :
      IsAt pitch_motion (pitch_of (slice_index s.levels 3)) (pitch_segment_at s) k off
      e.stages.stage e.stages.first e.stages.second e.stages.third e.stages.fourth e.level
