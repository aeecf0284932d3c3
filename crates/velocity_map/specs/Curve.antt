-- The curves of velocities.
use Rattle.std.specs.Prelude.{ℕ, ◌-◌, ◌*◌, ◌/◌, max}
use Rattle.velocity_map.specs.declared.curve.Curve.{Curve}
use Rattle.velocity_map.specs.declared.curve.Curve.TheVariants.{Linear, Soft, Hard}

-- the velocity that a curve makes of a velocity from 1 to 127
abbrev pub curve_value : Curve → ℕ → ℕ
curve_value Linear v = v
curve_value Soft v = 127 - (127 - v) * (127 - v) / 127
curve_value Hard v = max 1 (v * v / 127)
