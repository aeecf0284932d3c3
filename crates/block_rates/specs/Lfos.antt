-- The LFO of all notes: its value and its delay, as functions of the steps since it adopted settings or a key went down.
use Rattle.std.specs.Prelude.{ℕ, zero, suc, ◌+◌, ◌-◌, ◌*◌, ◌/◌, ◌%◌, ◌^◌, max, nat_lt, ◌==◌, if◌then◌else◌, List, slice_index, ℤ}
use Rattle.voice_record.specs.Voice.{opening_voice}
use Rattle.voice_record.specs.declared.parameter.TheConstants.{LFO_SPEED, LFO_DELAY, LFO_SYNC, LFO_WAVE}
use Rattle.block_rates.specs.Waves.{is_held, wave_of, wave_value}

-- speed and delay from 0 to 99, whether a key begins the wave anew (1) or not (0), and the number of the wave
pub record LfoSettings : Type 0 where
  pub speed : ℕ
  pub delay : ℕ
  pub sync : ℕ
  pub wave : ℕ

-- those of a voice
abbrev pub lfo_settings : List ℕ → LfoSettings
lfo_settings voice = record {
  speed = slice_index voice LFO_SPEED;
  delay = slice_index voice LFO_DELAY;
  sync = slice_index voice LFO_SYNC;
  wave = slice_index voice LFO_WAVE;
}

-- an LFO when it adopted settings or a key went down: its phase, of which 2 ^ 32 is one cycle, the random number that it
-- holds, and how far its delay has gone
pub record LfoState : Type 0 where
  pub settings : LfoSettings
  pub phase : ℕ
  pub random : ℕ
  pub delay_state : ℕ

-- n times f
unfoldable pub times : {X : Type 0} → ℕ → (X → X) → X → X
times zero f x = x
times (suc n) f x = f (times n f x)

-- the rate of a speed
abbrev pub speed_rate : ℕ → ℕ
speed_rate speed = if speed == 0 then 1 else 165 * speed / 64

-- what a rate is multiplied by: high rates count for more
abbrev pub rate_factor : ℕ → ℕ
rate_factor rate = if nat_lt rate 160 then 11 else 11 + (rate - 160) / 16

-- what one unit of a rate adds in a step, of which there is one a block, where 2 ^ 32 is one cycle or the whole delay
abbrev pub rate_unit : ℕ
rate_unit = 36558

-- what one step adds to the phase
unfoldable pub phase_increment : ℕ → ℕ
phase_increment speed = rate_unit * (speed_rate speed * rate_factor (speed_rate speed))

-- the next random number
unfoldable pub next_random : ℕ → ℕ
next_random r = (179 * r + 17) % 256

-- how fast a delay above 0 goes by
unfoldable pub delay_rate : ℕ → ℕ
delay_rate delay = (16 + (99 - delay) % 16) * 2 ^ (1 + (99 - delay) / 16)

-- how far a delay has gone after one step more, while the value is 0 (below 2 ^ 31) and while it fades in: this may pass the end, 2 ^ 32
unfoldable pub raised_delay_state : ℕ → ℕ → ℕ
raised_delay_state delay delay_state =
    let rate = delay_rate delay in
    delay_state + rate_unit * (if nat_lt delay_state (2 ^ 31) then rate else max 128 (rate - rate % 128))

-- how far it has gone after one step; at its end it stays, and where there is no delay too
abbrev pub next_delay_state : ℕ → ℕ → ℕ
next_delay_state delay delay_state =
    if delay == 0 then delay_state
    else (if nat_lt (raised_delay_state delay delay_state) (2 ^ 32) then raised_delay_state delay delay_state else delay_state)

-- the depth that a step answers, from 0 to 2 ^ 24
abbrev pub depth_of : ℕ → ℕ → ℕ
depth_of delay delay_state =
    if delay == 0 then 2 ^ 24
    else (if nat_lt (raised_delay_state delay delay_state) (2 ^ 31) then 0
    else (if nat_lt (raised_delay_state delay delay_state) (2 ^ 32) then (raised_delay_state delay delay_state - 2 ^ 31) / 2 ^ 7 else 2 ^ 24))

-- all cycles and parts of one since phase 0, m steps later
abbrev pub run_of : LfoState → ℕ → ℕ
run_of o m = o.phase + m * phase_increment o.settings.speed

unfoldable pub phase_after : LfoState → ℕ → ℕ
phase_after o m = run_of o m % 2 ^ 32

-- a new random number each time that a cycle of sample and hold has ended
unfoldable pub random_after : LfoState → ℕ → ℕ
random_after o m = if is_held (wave_of o.settings.wave) then times (run_of o m / 2 ^ 32) next_random o.random else o.random

unfoldable pub delay_state_after : LfoState → ℕ → ℕ
delay_state_after o m = times m (next_delay_state o.settings.delay) o.delay_state

-- what the m-th step answers, for m from 1 on
unfoldable pub lfo_value : LfoState → ℕ → ℤ
lfo_value o m = wave_value (wave_of o.settings.wave) (phase_after o m) (random_after o m)

unfoldable pub lfo_depth : LfoState → ℕ → ℕ
lfo_depth o m = depth_of o.settings.delay (delay_state_after o (m - 1))

-- before any settings are adopted
abbrev pub opening_lfo : LfoState
opening_lfo = record { settings = lfo_settings opening_voice; phase = 0; random = 0; delay_state = 0 }

-- other settings are adopted after m steps: nothing else changes
abbrev pub assigned : LfoSettings → LfoState → ℕ → LfoState
assigned settings o m = record { settings = settings; phase = phase_after o m; random = random_after o m; delay_state = delay_state_after o m }

-- a key goes down after m steps: the delay begins anew, and the wave where it is in sync
abbrev pub key_pressed : LfoState → ℕ → LfoState
key_pressed o m = record {
  settings = o.settings;
  phase = if o.settings.sync == 1 then 2 ^ 31 - 1 else phase_after o m;
  random = random_after o m;
  delay_state = 0;
}
