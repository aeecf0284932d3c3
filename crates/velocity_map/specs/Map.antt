-- The curve of a map.
use Rattle.velocity_map.specs.declared.curve.Curve.{Curve}
use Rattle.velocity_map.specs.declared.map.VelocityMap.{VelocityMap}

-- the curve that a map follows
abbrev pub curve_of : {g : _} {f : _} {m : _} → VelocityMap g f m → Curve
curve_of map = map.curve
