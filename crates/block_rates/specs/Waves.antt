-- The waves of the LFO: values from 0 to 2 ^ 24 at a phase p, of which 2 ^ 32 is one cycle.
use Rattle.std.specs.Prelude.{ℕ, ◌+◌, ◌-◌, ◌*◌, ◌/◌, ◌%◌, ◌^◌, nat_lt, ◌==◌, if◌then◌else◌, ℤ, pos, ◌+ℤ◌, bit_xor, Bool, true, false}
use Rattle.std.specs.Int.{int_shr}
use Rattle.dx_tables.specs.Sine.{sine}
use Rattle.block_rates.specs.declared.wave.Wave.{Wave}
use Rattle.block_rates.specs.declared.wave.Wave.TheVariants.{Triangle, SawDown, SawUp, Square, Sine, SampleAndHold}

-- the wave of this number, from 0 to 5
abbrev pub wave_of : ℕ → Wave
wave_of n =
    if n == 0 then Triangle
    else (if n == 1 then SawDown
    else (if n == 2 then SawUp
    else (if n == 3 then Square
    else (if n == 4 then Sine else SampleAndHold))))

-- whether this is sample and hold
abbrev pub is_held : Wave → Bool
is_held SampleAndHold = true
is_held _ = false

-- up in the first half of a cycle, down in the second
unfoldable pub triangle : ℕ → ℕ
triangle p = if nat_lt p (2 ^ 31) then p / 2 ^ 7 else 2 ^ 24 - 1 - (p - 2 ^ 31) / 2 ^ 7

-- down over a whole cycle, which begins in the middle
unfoldable pub saw_down : ℕ → ℕ
saw_down p = (2 ^ 32 - 1 - p + 2 ^ 31) % 2 ^ 32 / 2 ^ 8

-- up over a whole cycle, which begins in the middle
unfoldable pub saw_up : ℕ → ℕ
saw_up p = (p + 2 ^ 31) % 2 ^ 32 / 2 ^ 8

-- full in the first half of a cycle, 0 in the second
unfoldable pub square : ℕ → ℕ
square p = if nat_lt p (2 ^ 31) then 2 ^ 24 else 0

-- half of the sine's height, round the middle
unfoldable pub sine_wave : ℕ → ℤ
sine_wave p = pos (2 ^ 23) +ℤ int_shr (sine (pos (p / 2 ^ 8))) 1

-- the value that is held for a random number from 0 to 255
unfoldable pub held_value : ℕ → ℕ
held_value r = 65536 * (bit_xor r 128 + 1)

-- the value of a wave at a phase p, where r is the random number that is held
abbrev pub wave_value : Wave → ℕ → ℕ → ℤ
wave_value Triangle p r = pos (triangle p)
wave_value SawDown p r = pos (saw_down p)
wave_value SawUp p r = pos (saw_up p)
wave_value Square p r = pos (square p)
wave_value Sine p r = sine_wave p
wave_value SampleAndHold p r = pos (held_value r)
