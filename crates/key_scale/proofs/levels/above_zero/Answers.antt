use Rattle.std.proofs.Common.{◌≡◌, ℤ, pos, ◌*ℤ◌, ◌+ℤ◌, SFits, w32, ◌∙◌, arith}
use Rattle.std.proofs.lemmas.Int.{ints, clamps, to_z-of_z}
use Rattle.std.specs.Int.{int_max}
use Rattle.key_scale.proofs.levels.above_zero.Goals as goal

max_swapped : (a b : ℤ) → int_max a b ≡ int_max b a
max_swapped a b = omega (arith, ints, clamps)

pub returns-clause-value : goal.returns-clause-value
returns-clause-value c =
    let fl = c.ranges.level in
    let fv = c.ranges.velocity in
    let f1 : SFits w32 (pos 32 *ℤ c.args.level) = omega (arith, ints) in
    let f2 : SFits w32 (pos 32 *ℤ c.args.level +ℤ c.args.velocity) = omega (arith, ints) in
    let fr : SFits w32 c.max.result = record { sfits = c.max.type_inv } in
    let e = simp to_z-of_z at c.max.ensures.value in
    to_z-of_z w32 _ fr ∙ e ∙ max_swapped (pos 32 *ℤ c.args.level +ℤ c.args.velocity) (pos 0)
