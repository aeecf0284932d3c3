use Rattle.std.proofs.Common.{ℤ, pos, negsuc, ◌≤◌, ◌≤ℤ◌, ap, SFits, w16, w64, arith}
use Rattle.std.specs.Int.{int_shr}
use Rattle.std.proofs.lemmas.Int.{ints, to_z-of_z}
use Rattle.instrument.specs.State.{output_of}
use Rattle.instrument.proofs.mix.output.Goals as goal

fits4 : (z : ℤ) → SFits w64 z → SFits w64 (int_shr z 4)
fits4 (pos n) h = record { sfits = omega arith }
fits4 (negsuc n) h = record { sfits = omega arith }

record Shifted (r : ℤ) : Type 0 where
  wide : SFits w64 (int_shr r 9)
  short : SFits w16 (int_shr r 9)

fits9 : (r : ℤ) → negsuc 16777215 ≤ℤ r → r ≤ℤ pos 16777215 → Shifted r
fits9 (pos n) l h =
    let b : n ≤ 16777215 = omega (arith, ints) in
    record { wide = record { sfits = omega arith }; short = record { sfits = omega arith } }
fits9 (negsuc n) l h =
    let b : n ≤ 16777215 = omega (arith, ints) in
    record { wide = record { sfits = omega arith }; short = record { sfits = omega arith } }

pub returns : goal.returns
unfolding output_of
returns c =
    let f = c.ranges.sum in
    let f4 = fits4 c.args.sum f in
    let fr : SFits w64 c.clamp.result = record { sfits = c.clamp.type_inv } in
    let s = fits9 c.clamp.result c.clamp.ensures.lower_bound c.clamp.ensures.upper_bound in
    let f9 = s.wide in
    let f16 = s.short in
    simp to_z-of_z (ap (λ z. int_shr z 9) (simp to_z-of_z at c.clamp.ensures.value))
