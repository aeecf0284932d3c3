-- Stages of a pitch envelope run on step by step.
use Rattle.std.proofs.Common.{◌≡◌, ◌≢◌, ℕ, suc, ◌+◌, ◌*◌, true, false, inl, inr, ◌⊎◌, ap, sym, ◌∙◌, arith, ℤ, pos, ◌+ℤ◌, ◌-ℤ◌, ◌<ℤ◌, ◌≤ℤ◌, int_le}
use Rattle.std.specs.Int.{int_max, int_min}
use Rattle.std.specs.Ordering.{int_eq}
use Rattle.std.proofs.lemmas.Int.{ints, clamps, by_lt_z}
use Rattle.block_rates.specs.declared.pitch_segment.PitchSegment.{PitchSegment}
use Rattle.block_rates.specs.Pitches.{pitch_moved, pitch_motion}
use Rattle.block_rates.specs.Segments.{RunsOn}

down_test : (a b : ℤ) → a ≤ℤ b → int_le a b ≡ true
down_test a b h = grind (arith, ints)

up_test : (a b : ℤ) → b <ℤ a → int_le a b ≡ false
up_test a b h = grind (arith, ints)

pub going_down : (g : PitchSegment) (x : ℤ) (m : ℕ) → g.target ≤ℤ x → pitch_moved g x m ≡ int_max g.target (x -ℤ pos (m * g.increment))
unfolding pitch_moved
going_down g x m h = rw (down_test g.target x h)

pub going_up : (g : PitchSegment) (x : ℤ) (m : ℕ) → x <ℤ g.target → pitch_moved g x m ≡ int_min g.target (x +ℤ pos (m * g.increment))
unfolding pitch_moved
going_up g x m h = rw (up_test g.target x h)

begins_down : (t x : ℤ) → t ≤ℤ x → int_max t (x -ℤ pos 0) ≡ x
begins_down t x h = omega (arith, ints, clamps)

begins_up : (t x : ℤ) → x <ℤ t → int_min t (x +ℤ pos 0) ≡ x
begins_up t x h = omega (arith, ints, clamps)

stays_down : (t : ℤ) (n : ℕ) → int_max t (t -ℤ pos n) ≡ t
stays_down t n = omega (arith, ints, clamps)

le_self : (t : ℤ) → t ≤ℤ t
le_self t = omega (arith, ints)

-- what is left after one step down, and after one step up
left_down : (t x : ℤ) (p : ℕ) → t ≤ℤ x → int_max t (x -ℤ pos p) ≢ t → t ≤ℤ int_max t (x -ℤ pos p)
left_down t x p h ne = omega (arith, ints, clamps)

on_down : (t x : ℤ) (p m : ℕ) → t ≤ℤ x → int_max t (x -ℤ pos p) ≢ t → int_max t (x -ℤ pos (p + m)) ≡ int_max t (int_max t (x -ℤ pos p) -ℤ pos m)
on_down t x p m h ne = omega (arith, ints, clamps)

left_up : (t x : ℤ) (p : ℕ) → x <ℤ t → int_min t (x +ℤ pos p) ≢ t → int_min t (x +ℤ pos p) <ℤ t
left_up t x p h ne = omega (arith, ints, clamps)

on_up : (t x : ℤ) (p m : ℕ) → x <ℤ t → int_min t (x +ℤ pos p) ≢ t → int_min t (x +ℤ pos (p + m)) ≡ int_min t (int_min t (x +ℤ pos p) +ℤ pos m)
on_up t x p m h ne = omega (arith, ints, clamps)

same : (a b : ℤ) → int_eq a b ≡ true → a ≡ b
same a b e = grind (arith, ints)

other : (a b : ℤ) → int_eq a b ≡ false → a ≢ b
other a b e h = grind (arith, ints)

down_or_up : (t x : ℤ) → (t ≤ℤ x) ⊎ (x <ℤ t)
down_or_up t x = by_lt_z x t (λ h. inr h) (λ h. inl h)

begins_at : (g : PitchSegment) (x : ℤ) → pitch_moved g x 0 ≡ x
begins_at g x =
    let z : 0 * g.increment ≡ 0 = omega arith in
    elim (down_or_up g.target x) [
      | inl h ↦ going_down g x 0 h ∙ ap (λ n. int_max g.target (x -ℤ pos n)) z ∙ begins_down g.target x h
      | inr h ↦ going_up g x 0 h ∙ ap (λ n. int_min g.target (x +ℤ pos n)) z ∙ begins_up g.target x h
    ]

pub down_one : (g : PitchSegment) (x : ℤ) → g.target ≤ℤ x → pitch_moved g x 1 ≡ int_max g.target (x -ℤ pos g.increment)
down_one g x h = let z : 1 * g.increment ≡ g.increment = omega arith in going_down g x 1 h ∙ ap (λ n. int_max g.target (x -ℤ pos n)) z

pub up_one : (g : PitchSegment) (x : ℤ) → x <ℤ g.target → pitch_moved g x 1 ≡ int_min g.target (x +ℤ pos g.increment)
up_one g x h = let z : 1 * g.increment ≡ g.increment = omega arith in going_up g x 1 h ∙ ap (λ n. int_min g.target (x +ℤ pos n)) z

-- a stage that has not ended goes on from the pitch that it left
go_on : (g : PitchSegment) (x : ℤ) (m : ℕ) → pitch_moved g x 1 ≢ g.target → pitch_moved g x (suc m) ≡ pitch_moved g (pitch_moved g x 1) m
go_on g x m ne =
    let z : suc m * g.increment ≡ g.increment + m * g.increment = omega arith in
    elim (down_or_up g.target x) [
      | inl h ↦
          let e = down_one g x h in
          let ne' : int_max g.target (x -ℤ pos g.increment) ≢ g.target = λ q. ne (e ∙ q) in
          going_down g x (suc m) h ∙ ap (λ n. int_max g.target (x -ℤ pos n)) z ∙ on_down g.target x g.increment (m * g.increment) h ne'
          ∙ sym (going_down g (int_max g.target (x -ℤ pos g.increment)) m (left_down g.target x g.increment h ne')) ∙ ap (λ y. pitch_moved g y m) (sym e)
      | inr h ↦
          let e = up_one g x h in
          let ne' : int_min g.target (x +ℤ pos g.increment) ≢ g.target = λ q. ne (e ∙ q) in
          going_up g x (suc m) h ∙ ap (λ n. int_min g.target (x +ℤ pos n)) z ∙ on_up g.target x g.increment (m * g.increment) h ne'
          ∙ sym (going_up g (int_min g.target (x +ℤ pos g.increment)) m (left_up g.target x g.increment h ne')) ∙ ap (λ y. pitch_moved g y m) (sym e)
    ]

pub pitch_runs : RunsOn pitch_motion
pitch_runs = record {
  begins = begins_at;
  arrives = λ g x e. same x g.target e;
  stays = λ g m. going_down g g.target m (le_self g.target) ∙ stays_down g.target (m * g.increment);
  goes_on = λ g x m e. go_on g x m (other (pitch_moved g x 1) g.target e);
}
