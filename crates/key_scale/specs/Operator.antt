-- The settings of an operator, 1 to 6, by their numbers in a voice: operator 6 stands first, with 21 parameters each.
use Rattle.std.specs.Prelude.{ℕ, ◌+◌, ◌-◌, ◌*◌, List, slice_index}
use Rattle.voice_record.specs.declared.parameter.TheConstants.{OPERATOR_FIELDS}
use Rattle.voice_record.specs.declared.operator_parameter.TheConstants.{BREAK_POINT, LEFT_DEPTH, RIGHT_DEPTH, LEFT_CURVE, RIGHT_CURVE}
use Rattle.voice_record.specs.declared.operator_parameter.TheConstants.{RATE_SCALING, VELOCITY_SENSITIVITY, OUTPUT_LEVEL}
use Rattle.voice_record.specs.declared.operator_parameter.TheConstants.{MODE, COARSE, FINE, DETUNE}

-- a parameter of an operator, by its number among the operator's 21
abbrev pub operator_field : List ℕ → ℕ → ℕ → ℕ
operator_field voice operator parameter = slice_index voice (OPERATOR_FIELDS * (6 - operator) + parameter)

abbrev pub break_point : List ℕ → ℕ → ℕ
break_point voice operator = operator_field voice operator BREAK_POINT

abbrev pub left_depth : List ℕ → ℕ → ℕ
left_depth voice operator = operator_field voice operator LEFT_DEPTH

abbrev pub right_depth : List ℕ → ℕ → ℕ
right_depth voice operator = operator_field voice operator RIGHT_DEPTH

abbrev pub left_curve : List ℕ → ℕ → ℕ
left_curve voice operator = operator_field voice operator LEFT_CURVE

abbrev pub right_curve : List ℕ → ℕ → ℕ
right_curve voice operator = operator_field voice operator RIGHT_CURVE

abbrev pub rate_scaling : List ℕ → ℕ → ℕ
rate_scaling voice operator = operator_field voice operator RATE_SCALING

abbrev pub velocity_sensitivity : List ℕ → ℕ → ℕ
velocity_sensitivity voice operator = operator_field voice operator VELOCITY_SENSITIVITY

abbrev pub output_setting : List ℕ → ℕ → ℕ
output_setting voice operator = operator_field voice operator OUTPUT_LEVEL

-- 0 for a pitch by ratio, 1 for a fixed pitch
abbrev pub pitch_mode : List ℕ → ℕ → ℕ
pitch_mode voice operator = operator_field voice operator MODE

abbrev pub coarse_setting : List ℕ → ℕ → ℕ
coarse_setting voice operator = operator_field voice operator COARSE

abbrev pub fine_setting : List ℕ → ℕ → ℕ
fine_setting voice operator = operator_field voice operator FINE

-- 7 for none
abbrev pub detune_setting : List ℕ → ℕ → ℕ
detune_setting voice operator = operator_field voice operator DETUNE
