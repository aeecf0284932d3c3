-- When an envelope is one with given settings.
use Rattle.std.specs.Prelude.{ℕ, Option}
use Rattle.block_rates.specs.declared.envelope.Envelope.{Envelope}
use Rattle.block_rates.specs.StageOrder.{IsAt}
use Rattle.block_rates.specs.Levels.{EnvelopeSettings, level_segment_at, level_motion}

-- the envelope has these settings, after k steps, released after `off` of them or not yet
pub record IsEnvelope (e : Envelope) (s : EnvelopeSettings) (k : ℕ) (off : Option ℕ) : Type 0 where
  pub stands : IsAt level_motion 0 (level_segment_at s) k off e.stages.stage e.stages.first e.stages.second e.stages.third e.stages.fourth e.level
