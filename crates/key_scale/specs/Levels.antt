-- Output level, key scaling and rate scaling of an operator.
use Rattle.std.specs.Prelude.{ℕ, ◌+◌, ◌-◌, ◌*◌, ◌/◌, ◌^◌, ◌==◌, ◌||◌, min, nat_lt, if◌then◌else◌, List, ℤ, pos, negsuc, neg_ℤ, ◌+ℤ◌}
use Rattle.std.specs.Prelude.{◌-ℤ◌, ◌*ℤ◌, unsigned_abs}
use Rattle.std.specs.Int.{int_shr, int_min, int_max}
use Rattle.dx_tables.specs.Constants.{level, velocity_entry, exponential_scaling}
use Rattle.key_scale.specs.Operator.{break_point, left_depth, right_depth, left_curve, right_curve, rate_scaling, velocity_sensitivity}
use Rattle.key_scale.specs.Operator.{output_setting}

-- how many keys a note lies above the break point; break point 0 is key 17
abbrev pub key_distance : ℤ → ℕ → ℤ
key_distance note point = note -ℤ pos point -ℤ pos 17

-- the group of three keys, counted from the break point: (d + 1) / 3 on the right of it, (1 - d) / 3 on the left
unfoldable pub key_group : ℤ → ℕ
key_group (pos d) = (d + 1) / 3
key_group (negsuc d) = (d + 2) / 3

-- how far a curve has gone at a group of keys, with a depth: curves 0 and 3 are linear, 1 and 2 are exponential
unfoldable pub curve_height : ℕ → ℕ → ℕ → ℕ
curve_height curve depth keys =
    if curve == 0 || curve == 3 then keys * depth * 329 / 2 ^ 12
    else exponential_scaling (min keys 32) * depth * 329 / 2 ^ 15

-- curves 0 and 1 fall, curves 2 and 3 rise
abbrev pub curve_value : ℕ → ℕ → ℕ → ℤ
curve_value curve depth keys = if nat_lt curve 2 then neg_ℤ (pos (curve_height curve depth keys)) else pos (curve_height curve depth keys)

-- the value that belongs to the side of the break point: left where the distance is negative
abbrev pub on_side : ℤ → ℤ → ℤ → ℤ
on_side (pos d) left right = right
on_side (negsuc d) left right = left

-- what the level of an operator gains at a note
unfoldable pub key_scaling : List ℕ → ℕ → ℤ → ℤ
key_scaling voice operator note =
    let distance = key_distance note (break_point voice operator) in
    on_side distance (curve_value (left_curve voice operator) (left_depth voice operator) (key_group distance))
    (curve_value (right_curve voice operator) (right_depth voice operator) (key_group distance))

-- what the level of an operator gains by a velocity, 1/256 octave of gain each
unfoldable pub velocity_part : ℕ → ℕ → ℤ
velocity_part sensitivity velocity =
    pos 16 *ℤ int_shr (pos sensitivity *ℤ (pos (velocity_entry (velocity / 2)) -ℤ pos 239) +ℤ pos 7) 3

-- the whole level, 1/256 octave of gain each, and never below 0
unfoldable pub whole_level : ℕ → ℤ → ℤ → ℤ
whole_level setting scaling velocity = int_max (pos 0) (pos 32 *ℤ int_min (pos 127) (pos (level setting) +ℤ scaling) +ℤ velocity)

-- the output level of an operator of a voice, at a note and a velocity
abbrev pub output_level : List ℕ → ℕ → ℤ → ℕ → ℤ
output_level voice operator note velocity =
    whole_level (output_setting voice operator) (key_scaling voice operator note) (velocity_part (velocity_sensitivity voice operator) velocity)

-- a note, or 0 where it is negative
abbrev pub key_from_zero : ℤ → ℕ
key_from_zero note = unsigned_abs (int_max (pos 0) note)

-- how much faster envelopes run at a note, with a sensitivity: nothing below key 21, then more every three keys up to key 114
unfoldable pub rate_scale_by : ℕ → ℤ → ℕ
rate_scale_by sensitivity note = sensitivity * min 31 (key_from_zero note / 3 - 7) / 2 ^ 3

abbrev pub rate_scale_of : List ℕ → ℕ → ℤ → ℕ
rate_scale_of voice operator note = rate_scale_by (rate_scaling voice operator) note
