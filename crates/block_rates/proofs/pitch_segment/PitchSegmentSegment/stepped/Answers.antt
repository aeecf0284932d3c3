use Rattle.std.proofs.Common.{◌≡◌, ◌^◌, ◌∙◌, ◌+ℤ◌, ◌-ℤ◌, ◌≤ℤ◌, ◌<ℤ◌, ◌≤◌, true, false, sym, pos, neg_ℤ, ℤ, ℕ, w32, SFits, to_z, of_z, int_le, arith, lit<}
use Rattle.std.proofs.lemmas.Int.{to_z-of_z, to_z_pos, ints}
use Rattle.std.specs.Int.{int_max, int_min}
use Rattle.dx_tables.proofs.Ranges.{fits_from_Within}
use Rattle.block_rates.specs.declared.pitch_segment.PitchSegment.{PitchSegment}
use Rattle.block_rates.specs.Pitches.{pitch_moved}
use Rattle.block_rates.proofs.PitchSteps.{down_one, up_one}
use Rattle.block_rates.proofs.pitch_segment.PitchSegmentSegment.stepped.Goals as goal

le_test : (a b : ℤ) → int_le a b ≡ true → a ≤ℤ b
le_test a b e = grind (arith, ints)

lt_test : (a b : ℤ) → int_le a b ≡ false → b <ℤ a
lt_test a b e = grind (arith, ints)

fits : (z : ℤ) → neg_ℤ (pos 134217728) ≤ℤ z → z ≤ℤ pos 134217728 → SFits w32 z
fits z low high = fits_from_Within w32 134217728 z (record { low = low; high = high }) (lit< tt)

-- the numbers of a step fit, so that they are read as they were written
record StepFits (t x : ℤ) (p : ℕ) : Type 0 where
  target : to_z w32 (of_z w32 t) ≡ t
  level : to_z w32 (of_z w32 x) ≡ x
  step : to_z w32 p ≡ pos p
  down : to_z w32 (of_z w32 (x -ℤ pos p)) ≡ x -ℤ pos p
  up : to_z w32 (of_z w32 (x +ℤ pos p)) ≡ x +ℤ pos p

step_fits : (t x : ℤ) (p : ℕ) → neg_ℤ (pos (2 ^ 26)) ≤ℤ t → t ≤ℤ pos (2 ^ 26) → p ≤ 291465 → neg_ℤ (pos (2 ^ 26)) ≤ℤ x → x ≤ℤ pos (2 ^ 26) → StepFits t x p
step_fits t x p a b h l m = record {
  target = to_z-of_z w32 t (fits t (omega (arith, ints)) (omega (arith, ints)));
  level = to_z-of_z w32 x (fits x (omega (arith, ints)) (omega (arith, ints)));
  step = to_z_pos w32 p (omega arith);
  down = to_z-of_z w32 (x -ℤ pos p) (fits (x -ℤ pos p) (omega (arith, ints)) (omega (arith, ints)));
  up = to_z-of_z w32 (x +ℤ pos p) (fits (x +ℤ pos p) (omega (arith, ints)) (omega (arith, ints)));
}

down_is : (g : PitchSegment) (x r : ℤ) → StepFits g.target x g.increment → SFits w32 r → int_le (to_z w32 (of_z w32 g.target)) (to_z w32 (of_z w32 x)) ≡ true
    → r ≡ int_max (to_z w32 (of_z w32 g.target)) (to_z w32 (of_z w32 (to_z w32 (of_z w32 x) -ℤ to_z w32 g.increment)))
    → to_z w32 (of_z w32 r) ≡ pitch_moved g x 1
down_is g x r f fr test e =
    let le = rw (f.target, f.level) at test in
    let v = rw (f.target, f.level, f.step, f.down) at e in
    to_z-of_z w32 r fr ∙ v ∙ sym (down_one g x (le_test g.target x le))

up_is : (g : PitchSegment) (x r : ℤ) → StepFits g.target x g.increment → SFits w32 r → int_le (to_z w32 (of_z w32 g.target)) (to_z w32 (of_z w32 x)) ≡ false
    → r ≡ int_min (to_z w32 (of_z w32 g.target)) (to_z w32 (of_z w32 (to_z w32 (of_z w32 x) +ℤ to_z w32 g.increment)))
    → to_z w32 (of_z w32 r) ≡ pitch_moved g x 1
up_is g x r f fr test e =
    let le = rw (f.target, f.level) at test in
    let v = rw (f.target, f.level, f.step, f.up) at e in
    to_z-of_z w32 r fr ∙ v ∙ sym (up_one g x (lt_test g.target x le))

pub returns-then-self-level-clause-value : goal.returns-then-self-level-clause-value
returns-then-self-level-clause-value c =
    let r = c.requires in
    down_is c.args.self c.args.level c.max.result (step_fits _ _ _ r.segment.0.0 r.segment.0.1 r.segment.1 r.value.0 r.value.1)
    (record { sfits = c.max.type_inv }) c.if-self-level.true c.max.ensures.value

pub returns-else-self-level-clause-value : goal.returns-else-self-level-clause-value
returns-else-self-level-clause-value c =
    let r = c.requires in
    up_is c.args.self c.args.level c.min.result (step_fits _ _ _ r.segment.0.0 r.segment.0.1 r.segment.1 r.value.0 r.value.1)
    (record { sfits = c.min.type_inv }) c.if-self-level.false c.min.ensures.value
