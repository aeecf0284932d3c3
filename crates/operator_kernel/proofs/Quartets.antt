-- Lanes of operators that modulate themselves.
use Rattle.std.proofs.Common.{ℕ, ℤ, zero, suc, pos, Bool, true, false, cond, refl, unsigned_abs, map, get_or, length, ◌+ℤ◌, ◌*ℤ◌, ◌+◌, ◌-◌, ◌%◌, ◌^◌, ◌<◌}
use Rattle.std.proofs.Common.{◌≤◌, ◌≡◌, ◌∙◌, ap, add-one, List, [], ◌∷◌, SFits, w32, w64, to_z, of_z, arith, rules}
use Rattle.std.specs.Int.{int_shr}
use lib.Lanes.{Each1}
use Rattle.std.proofs.lemmas.Int.{to_z-of_z, int_wrap_fits, SFits-int_wrap, wrapping_add_is}
use Rattle.dx_tables.specs.Numbers.{wrap, residue, index_of, fraction_of}
use Rattle.dx_tables.specs.Sine.{sine}
use Rattle.dx_tables.proofs.Ranges.{Within, abs_Within, Within_abs, Within-mul, Within-add, Within-shr, Within-scaled, fits_from_Within}
use Rattle.operator_kernel.specs.declared.OpBlock.{OpBlock}
use Rattle.operator_kernel.specs.declared.quartet.Quartet.{Quartet}
use Rattle.operator_kernel.specs.Operator.{silent, phase_at, gain_at, sample_at, HasGains, FeedbackState, feedback_of, feedback_state_after, feedback_sample}
use Rattle.operator_kernel.specs.Lanes.{phase_of}
use Rattle.operator_kernel.specs.Indices.{sine_past}
use Rattle.operator_kernel.specs.declared.FeedbackPath.{FeedbackPath}
use Rattle.operator_kernel.specs.Paths.{path_at, path_sample, path_state}
use Rattle.operator_kernel.specs.Quartets.{IsSmallState, IsLive, AreLive, AreAt, AreBounded}
use Rattle.operator_kernel.proofs.Gains.{gain_fits}
use Rattle.operator_kernel.proofs.Fours.{four_is, lanes_read}
use Rattle.operator_kernel.proofs.LaneSteps.{sine_read, sine_bound, sine_Within, sample_lane}
use Rattle.operator_kernel.proofs.Indices.{phase_here}

-- numbers that are small are read as they were written
pub small_fits : (b : ℕ) (z : ℤ) → b < 2 ^ 31 → unsigned_abs z ≤ b → SFits w32 z
small_fits b z lt p = fits_from_Within w32 b z (abs_Within b z p) (omega (arith, lt))

pub reads_fit : (xs : List ℤ) → Each1 (SFits w32) xs → Each1 (SFits w32) (map (to_z w32) (map (of_z w32) xs))
reads_fit xs f = rw (lanes_read xs f) f

-- the bits of four phases
pub bits_are : (xs : List ℤ) (bits : List ℕ) → length xs ≡ 4 → Each1 (SFits w32) xs → bits ≡ map residue (map (to_z w32) (map (of_z w32) xs)) →
    bits ≡ residue (get_or xs 0 (pos 0)) ∷ residue (get_or xs 1 (pos 0)) ∷ residue (get_or xs 2 (pos 0)) ∷ residue (get_or xs 3 (pos 0)) ∷ []
bits_are xs bits n f e = e ∙ ap (map residue) (lanes_read xs f) ∙ ap (map residue) (four_is (pos 0) xs n)

-- the sine of a phase
pub sine_lane : (p : ℤ) (i l : ℕ) → i ≡ index_of p → l ≡ fraction_of p → to_z w64 (of_z w64 (sine_past i l)) ≡ sine p
unfolding sine
sine_lane p i l e f = rw (e, f) (sine_read (residue p))

pub sine_small : (p : ℤ) → unsigned_abs (to_z w64 (of_z w64 (sine p))) ≤ 2 ^ 25
unfolding sine
sine_small p = sine_bound (residue p)

-- samples are small
by_silence : (t : Bool) (z : ℤ) → Within (2 ^ 29) z → unsigned_abs (cond t (pos 0) (wrap z)) ≤ 2 ^ 29
by_silence true z w = omega arith
by_silence false z w = rw (int_wrap_fits w32 z (fits_from_Within w32 (2 ^ 29) z w (omega arith))) (Within_abs (2 ^ 29) z w)

pub sample_small : (op : OpBlock) (j : ℕ) (x : ℤ) → HasGains op → j < 64 → unsigned_abs (sample_at op j x) ≤ 2 ^ 29
unfolding sample_at sine
sample_small op j x h lt =
    by_silence (silent op) _ (Within-scaled (2 ^ 29) 24 _ (Within-mul (2 ^ 25) (2 ^ 28) _ _ (sine_Within (residue (phase_at op j x)))
    (abs_Within (2 ^ 28) (gain_at op j) (gain_fits op j h (omega (arith, lt))).small)))

-- the state before sample j
pub state_first : (op : OpBlock) (f : ℕ) (m : FeedbackState) → feedback_state_after op f m 0 ≡ m
unfolding feedback_state_after
state_first op f m = refl

pub state_next : (op : OpBlock) (f : ℕ) (m : FeedbackState) (j : ℕ) → feedback_state_after op f m (j + 1) ≡ record {
  before_last =
      (feedback_state_after op f m j).last;
  last = feedback_sample op f m j;
}
unfolding feedback_state_after
state_next op f m j = rw add-one

pub state_small : (p : FeedbackPath) (j : ℕ) → IsLive p → j ≤ 64 → IsSmallState (path_state p j)
unfolding feedback_state_after
state_small p zero v le = v.small
state_small p (suc j) v le =
    let s = state_small p j v (omega (arith, le)) in
    record { before_last = s.last; last = sample_small p.op j _ v.gains (omega (arith, le)) }

pub last_read : (p : FeedbackPath) (j : ℕ) → IsLive p → j ≤ 64 → to_z w32 (of_z w32 (path_state p j).last) ≡ (path_state p j).last
last_read p j v le = to_z-of_z w32 _ (small_fits (2 ^ 29) _ (omega arith) (state_small p j v le).last)

pub before_read : (p : FeedbackPath) (j : ℕ) → IsLive p → j ≤ 64 → to_z w32 (of_z w32 (path_state p j).before_last) ≡ (path_state p j).before_last
before_read p j v le = to_z-of_z w32 _ (small_fits (2 ^ 29) _ (omega arith) (state_small p j v le).before_last)

pub sample_read : (p : FeedbackPath) (j : ℕ) → IsLive p → j < 64 → to_z w32 (of_z w32 (path_sample p j)) ≡ path_sample p j
sample_read p j v lt = to_z-of_z w32 _ (small_fits (2 ^ 29) _ (omega arith) (sample_small p.op j _ v.gains lt))

-- a lane that was read twice
pub twice : (z : ℤ) → to_z w32 (of_z w32 z) ≡ z → to_z w32 (of_z w32 (to_z w32 (of_z w32 z))) ≡ z
twice z e = ap (λ x. to_z w32 (of_z w32 x)) e ∙ e

pub phase_read : (op : OpBlock) (j : ℕ) → to_z w32 (of_z w32 (phase_of op j)) ≡ phase_of op j
phase_read op j = to_z-of_z w32 _ (SFits-int_wrap w32 _)

pub same_state : (m : FeedbackState) (x y : ℤ) → x ≡ m.before_last → y ≡ m.last → record { before_last = x; last = y } ≡ m
same_state m x y p q = rw (p, q)

-- the sample of a lane, by what was read of its phase and its last two samples
pub fed_lane : (w : FeedbackPath) (j : ℕ) (p x y q : ℤ) → IsLive w → j < 64 → p ≡ phase_of w.op j
    → x ≡ (path_state w j).before_last → y ≡ (path_state w j).last
    → q ≡ wrap (p +ℤ feedback_of w.feedback (record { before_last = x; last = y }))
    → to_z w32 (of_z w32 (wrap (int_shr (to_z w64 (of_z w64 (sine q)) *ℤ to_z w64 (of_z w64 (gain_at w.op j))) 24))) ≡ path_sample w j
unfolding sine
fed_lane w j p x y q v lt ep ex ey e =
    let here : q ≡ phase_at w.op j (feedback_of w.feedback (path_state w j)) =
    phase_here w.op p q _ j ep e ∙ ap (λ s. phase_at w.op j (feedback_of w.feedback s)) (same_state (path_state w j) x y ex ey) in
    rw here (sample_lane w.op j (feedback_of w.feedback (path_state w j)) v.gains lt v.sounds)

feedback_heard : (f : ℕ) (x y : ℤ) → 1 ≤ f → feedback_of f (record { before_last = x; last = y }) ≡ int_shr (x +ℤ y) (9 - f)
feedback_heard f x y le = search (rules, arith)

-- a phase with the feedback, as the lanes compute it
pub fed_phase_lane : (f : ℕ) (p x y k : ℤ) → (1 ≤ f) × (f ≤ 7) → unsigned_abs x ≤ 2 ^ 29 → unsigned_abs y ≤ 2 ^ 29 → SFits w32 p → k ≡ pos (9 - f) →
    to_z w32 ((of_z w32 p + of_z w32 (int_shr (to_z w32 ((of_z w32 x + of_z w32 y) % 2 ^ 32)) (of_z w32 k))) % 2 ^ 32) ≡ wrap
    (p +ℤ feedback_of f (record { before_last = x; last = y }))
fed_phase_lane f p x y k hears ex ey fp e =
    let wx : Within (2 ^ 29) x = abs_Within _ _ ex in
    let wy : Within (2 ^ 29) y = abs_Within _ _ ey in
    let ws : Within (2 ^ 30) (x +ℤ y) = Within-add (2 ^ 29) (2 ^ 29) _ _ wx wy in
    let fs : SFits w32 (x +ℤ y) = fits_from_Within w32 _ _ ws (omega arith) in
    let fh : SFits w32 (int_shr (x +ℤ y) (9 - f)) = fits_from_Within w32 _ _ (Within-shr (2 ^ 30) (9 - f) _ ws) (omega arith) in
    let sum : to_z w32 ((of_z w32 x + of_z w32 y) % 2 ^ 32) ≡ x +ℤ y = wrapping_add_is w32 x y (small_fits (2 ^ 29) x (omega arith) ex)
    (small_fits (2 ^ 29) y (omega arith) ey) ∙ int_wrap_fits w32 _ fs in
    let heard : feedback_of f (record { before_last = x; last = y }) ≡ int_shr (x +ℤ y) (9 - f) = feedback_heard f x y hears.0 in
    rw (sum, e, heard) (wrapping_add_is w32 p _ fp fh)

pub gain_small : (p : FeedbackPath) (j : ℕ) → IsLive p → j ≤ 64 → unsigned_abs (gain_at p.op j) ≤ 2 ^ 28
gain_small p j v le = (gain_fits p.op j v.gains (omega (arith, le))).small

-- the vectors at a sample are bounded
pub bounded : (ps : List FeedbackPath) (j : ℕ) (q : Quartet) → AreLive ps → j ≤ 64 → AreAt ps j q → AreBounded q
bounded ps j q live le at =
    let g = λ (k : ℕ) (lt : k < 4). gain_small (path_at ps k) j (live.live k lt) le in
    let s = λ (k : ℕ) (lt : k < 4). state_small (path_at ps k) j (live.live k lt) le in
    let s0 = s 0 (omega arith) in
    let s1 = s 1 (omega arith) in
    let s2 = s 2 (omega arith) in
    let s3 = s 3 (omega arith) in
    record {
      four_phases = ap length at.phases;
      four_gains = ap length at.gains;
      four_before = ap length at.before_last;
      four_last = ap length at.last;
      phases = rw at.phases (SFits-int_wrap w32 _, (SFits-int_wrap w32 _, (SFits-int_wrap w32 _, (SFits-int_wrap w32 _, tt))));
      gains = rw at.gains (g 0 (omega arith), (g 1 (omega arith), (g 2 (omega arith), (g 3 (omega arith), tt))));
      before_last = rw at.before_last (s0.before_last, (s1.before_last, (s2.before_last, (s3.before_last, tt))));
      last = rw at.last (s0.last, (s1.last, (s2.last, (s3.last, tt))));
    }
