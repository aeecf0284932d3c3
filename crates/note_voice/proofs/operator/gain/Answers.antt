use Rattle.std.proofs.Common.{ℤ, pos, ◌-ℤ◌, ◌≤ℤ◌, ◌<ℤ◌, ◌≡◌, ◌∙◌, ap, SFits, w32, to_z, of_z, arith}
use Rattle.std.specs.Int.{int_max}
use Rattle.std.proofs.lemmas.Int.{ints, clamps, to_z-of_z}
use Rattle.dx_tables.specs.Powers.{exponential}
use Rattle.note_voice.specs.Modulation.{gain_of}
use Rattle.note_voice.proofs.operator.gain.Goals as goal

max_swapped : (a b : ℤ) → int_max a b ≡ int_max b a
max_swapped a b = omega (arith, ints, clamps)

max_fits : (m z : ℤ) → m ≡ int_max z (pos 0) → z ≤ℤ pos 266338813 → SFits w32 (m -ℤ pos 234881024)
max_fits m z e h =
    let f : SFits w32 (int_max z (pos 0) -ℤ pos 234881024) = omega (arith, ints, clamps) in
    rw e f

max_below : (m z : ℤ) → m ≡ int_max z (pos 0) → z ≤ℤ pos 266338813 → (m -ℤ pos 234881024) <ℤ pos 33554432
max_below m z e h =
    let f : (int_max z (pos 0) -ℤ pos 234881024) <ℤ pos 33554432 = omega (arith, ints, clamps) in
    rw e f

arg_bits : (m : ℤ) → SFits w32 m → SFits w32 (m -ℤ pos 234881024) → to_z w32 (of_z w32 (to_z w32 (of_z w32 m) -ℤ pos 234881024)) ≡ m -ℤ pos 234881024
arg_bits m f g = simp to_z-of_z

pub returns-clause-value : goal.returns-clause-value
unfolding gain_of
returns-clause-value c =
    let fl = c.ranges.level in
    let fd = c.ranges.attenuation in
    let f1 : SFits w32 (c.args.level -ℤ c.args.attenuation) = omega (arith, ints) in
    let fm : SFits w32 c.max.result = record { sfits = c.max.type_inv } in
    let fe : SFits w32 c.exp.result = record { sfits = c.exp.type_inv } in
    let e : c.max.result ≡ int_max (c.args.level -ℤ c.args.attenuation) (pos 0) = simp to_z-of_z at c.max.ensures.value in
    let f2 : SFits w32 (c.max.result -ℤ pos 234881024) = max_fits c.max.result (c.args.level -ℤ c.args.attenuation) e (omega (arith, ints)) in
    to_z-of_z w32 _ fe ∙ c.exp.ensures.value ∙ ap exponential (arg_bits c.max.result fm f2)
    ∙ ap (λ z. exponential (z -ℤ pos 234881024)) (e ∙ max_swapped (c.args.level -ℤ c.args.attenuation) (pos 0))

pub returns-clause-high : goal.returns-clause-high
returns-clause-high c =
    let fl = c.ranges.level in
    let fd = c.ranges.attenuation in
    let f1 : SFits w32 (c.args.level -ℤ c.args.attenuation) = omega (arith, ints) in
    let fm : SFits w32 c.max.result = record { sfits = c.max.type_inv } in
    let fe : SFits w32 c.exp.result = record { sfits = c.exp.type_inv } in
    let e : c.max.result ≡ int_max (c.args.level -ℤ c.args.attenuation) (pos 0) = simp to_z-of_z at c.max.ensures.value in
    let f2 : SFits w32 (c.max.result -ℤ pos 234881024) = max_fits c.max.result (c.args.level -ℤ c.args.attenuation) e (omega (arith, ints)) in
    simp to_z-of_z (c.exp.ensures.gain (rw (arg_bits c.max.result fm f2) (max_below c.max.result (c.args.level -ℤ c.args.attenuation) e (omega (arith, ints)))))
