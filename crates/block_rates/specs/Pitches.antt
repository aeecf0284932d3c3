-- Levels of the pitch envelope, from its settings to the level of each block. 2 ^ 24 is one octave.
use Rattle.std.specs.Prelude.{◌≤◌, ◌≤ℤ◌, neg_ℤ, ℕ, ◌*◌, ◌^◌, if◌then◌else◌, List, Option, slice_index, ℤ, pos, ◌+ℤ◌, ◌-ℤ◌, ◌*ℤ◌, int_le}
use Rattle.std.specs.Ordering.{int_eq}
use Rattle.std.specs.Int.{int_max, int_min}
use Rattle.dx_tables.specs.Constants.{pitch_rate, pitch_level}
use Rattle.block_rates.specs.declared.pitch_segment.PitchSegment.{PitchSegment}
use Rattle.block_rates.specs.Stages.{Motion, four_stages}

-- rates and levels of the four stages, 0 to 99
pub record PitchEnvelopeSettings : Type 0 where
  pub rates : List ℕ
  pub levels : List ℕ

-- the pitch of a level parameter
unfoldable pub pitch_of : ℕ → ℤ
pitch_of parameter = pitch_level parameter *ℤ pos (2 ^ 19)

-- by how much a stage moves the pitch in a step, for its rate parameter
unfoldable pub pitch_increment : ℕ → ℕ
pitch_increment rate = pitch_rate rate * 1143

-- the stage of this number, from 0 to 3
abbrev pub pitch_segment_at : PitchEnvelopeSettings → ℕ → PitchSegment
pitch_segment_at s i = record {
  target = pitch_of (slice_index s.levels i);
  increment = pitch_increment (slice_index s.rates i);
}

-- what every pitch of a pitch envelope is: at most four octaves up or down
abbrev pub IsPitch : ℤ → Type 0
IsPitch z = (neg_ℤ (pos (2 ^ 26)) ≤ℤ z) × (z ≤ℤ pos (2 ^ 26))

-- what every segment of it is: its increment is at most that of rate 99
abbrev pub IsPitchSegment : PitchSegment → Type 0
IsPitchSegment g = IsPitch g.target × (g.increment ≤ 291465)

-- the pitch m steps after the stage is entered at x: nearer to the target by m of its increments, and not past it
unfoldable pub pitch_moved : PitchSegment → ℤ → ℕ → ℤ
pitch_moved g x m =
    if int_le g.target x then int_max g.target (x -ℤ pos (m * g.increment))
    else int_min g.target (x +ℤ pos (m * g.increment))

-- how a stage moves a pitch
abbrev pub pitch_motion : Motion PitchSegment ℤ
pitch_motion = record { target = λ g. g.target; is_there = λ g x. int_eq x g.target; go = pitch_moved }

-- the level that the k-th step of a pitch envelope answers, where the key is released after `off` steps, or never: it begins at the last level
unfoldable pub pitch_envelope_level : PitchEnvelopeSettings → ℕ → Option ℕ → ℤ
pitch_envelope_level s k off = four_stages pitch_motion (pitch_of (slice_index s.levels 3)) (pitch_segment_at s) k off
