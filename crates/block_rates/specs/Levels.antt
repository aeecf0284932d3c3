-- Levels of an operator's envelope, from its settings to the level of each block. 2 ^ 24 is one octave of gain. Levels and
-- targets are not negative, so `max t (x - m * i)` is the same number whether `-` stops at 0 or not.
use Rattle.std.specs.Prelude.{◌≤◌, ℕ, zero, suc, ◌+◌, ◌-◌, ◌*◌, ◌/◌, ◌%◌, ◌^◌, min, max, nat_le, ◌==◌, if◌then◌else◌, List, Option, slice_index}
use Rattle.dx_tables.specs.Constants.{level}
use Rattle.block_rates.specs.declared.level_segment.LevelSegment.{LevelSegment}
use Rattle.block_rates.specs.Stages.{Motion, four_stages}

-- rates and levels of the four stages, 0 to 99, the operator's output level, and what its rate scaling adds to the rates
pub record EnvelopeSettings : Type 0 where
  pub rates : List ℕ
  pub levels : List ℕ
  pub out : ℕ
  pub rate_scale : ℕ

-- the level that a stage leads to, from its level parameter and the output level
unfoldable pub target_level : ℕ → ℕ → ℕ
target_level parameter out = 65536 * max 16 (64 * (level parameter / 2) + out - 4256)

-- the rate of a stage in steps of 1/4 octave of speed, from its rate parameter and the rate scale
abbrev pub scaled_rate : ℕ → ℕ → ℕ
scaled_rate rate rate_scale = min 63 (rate * 41 / 64 + rate_scale)

-- by how much a stage of this scaled rate moves the level in a step
unfoldable pub rate_increment : ℕ → ℕ
rate_increment q = (4 + q % 4) * 2 ^ (8 + q / 4)

-- the stage of this number, from 0 to 3
abbrev pub level_segment_at : EnvelopeSettings → ℕ → LevelSegment
level_segment_at s i = record {
  target = target_level (slice_index s.levels i) s.out;
  increment = rate_increment (scaled_rate (slice_index s.rates i) s.rate_scale);
}

-- the highest level of an envelope, that of level 99 at output level 4288
abbrev pub greatest_level : ℕ
greatest_level = 65536 * 4064

-- the increment of the highest scaled rate, 63
abbrev pub greatest_increment : ℕ
greatest_increment = 7 * 2 ^ 23

-- what every segment of an envelope is
abbrev pub IsLevelSegment : LevelSegment → Type 0
IsLevelSegment s = (s.target ≤ greatest_level) × (s.increment ≤ greatest_increment)

-- one step of a rising stage: a level below 1716 * 2 ^ 16 jumps to it first, and the level rises by less the higher it is
abbrev pub rise : LevelSegment → ℕ → ℕ
rise s x = let y = max x (1716 * 65536) in min s.target (y + (17 * 2 ^ 24 - y) / 2 ^ 24 * s.increment)

-- m steps of a rising stage
unfoldable pub risen : LevelSegment → ℕ → ℕ → ℕ
risen s zero x = x
risen s (suc m) x = risen s m (rise s x)

-- the level m steps after the stage is entered at x
unfoldable pub go : LevelSegment → ℕ → ℕ → ℕ
go s x zero = x
go s x (suc m) = if nat_le s.target x then max s.target (x - suc m * s.increment) else risen s (suc m) x

-- how a stage moves a level
abbrev pub level_motion : Motion LevelSegment ℕ
level_motion = record { target = λ s. s.target; is_there = λ s x. x == s.target; go = go }

-- the level that the k-th step of an envelope answers, where the key is released after `off` steps, or never
unfoldable pub envelope_level : EnvelopeSettings → ℕ → Option ℕ → ℕ
envelope_level s k off = four_stages level_motion 0 (level_segment_at s) k off
