-- When an LFO stands at a step.
use Rattle.std.specs.Prelude.{◌≡◌, ℕ, ◌==◌}
use Rattle.block_rates.specs.declared.lfo.Lfo.{Lfo}
use Rattle.block_rates.specs.Waves.{wave_of}
use Rattle.block_rates.specs.Lfos.{LfoState, phase_after, random_after, delay_state_after}

-- the LFO stands m steps after it was as o
pub record IsLfo (l : Lfo) (o : LfoState) (m : ℕ) : Type 0 where
  pub speed : l.speed ≡ o.settings.speed
  pub delay : l.delay ≡ o.settings.delay
  pub sync : l.is_synced ≡ (o.settings.sync == 1)
  pub wave : l.wave ≡ wave_of o.settings.wave
  pub phase : l.phase ≡ phase_after o m
  pub random : l.random ≡ random_after o m
  pub delay_state : l.delay_state ≡ delay_state_after o m
