use Rattle.std.proofs.Common.{ℕ, ◌≤◌, ◌*◌, ◌/◌, pos, ◌≤ℤ◌, to_z, w32, arith}
use Rattle.std.proofs.Math.Nat.{mul-le-mul}
use Rattle.std.proofs.lemmas.Int.{ints, to_z_pos}
use Rattle.key_scale.proofs.scaling.rate_scaling.Goals as goal

eighth_small : (s k : ℕ) → s ≤ 7 → k ≤ 31 → to_z w32 (s * k / 8) ≤ℤ pos 27
eighth_small s k p q =
    let m : s * k ≤ 7 * 31 = mul-le-mul p q in
    rw (to_z_pos w32 (s * k / 8) (omega arith)) (omega (arith, ints))

pub returns-clause-high : goal.returns-clause-high
returns-clause-high c = eighth_small _ _ (omega arith) (omega arith)
