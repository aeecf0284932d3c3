-- Operators of the opening voice that are not heard, and what does not move it.
use Rattle.std.proofs.Common.{ℕ, zero, suc, ℤ, pos, negsuc, ◌-ℤ◌, ◌*ℤ◌, ◌+◌, ◌-◌, ◌*◌, ◌/◌, ◌^◌, ◌<◌, ◌≤◌, ◌≡◌, ◌∙◌, ap, refl, add-one, List, [], ◌∷◌, get_or}
use Rattle.std.proofs.Common.{Option, None, Some, Bool, true, false, cond, min, max, unsigned_abs, arith}
use Rattle.std.specs.Int.{int_max}
use Rattle.std.proofs.lemmas.Int.{ints, clamps}
use Rattle.dx_tables.specs.Constants.{level, pitch_level, pitch_sensitivity, amplitude_sensitivity}
use Rattle.dx_tables.specs.Powers.{exponential, power_entry, power, power_by}
use Rattle.dx_tables.proofs.PowerBounds.{radical_10}
use Rattle.voice_record.specs.Voice.{opening_voice}
use Rattle.block_rates.specs.declared.level_segment.LevelSegment.{LevelSegment}
use Rattle.block_rates.specs.declared.pitch_segment.PitchSegment.{PitchSegment}
use Rattle.block_rates.specs.Stages.{Motion, after, first_from, lasts, four_stages}
use Rattle.block_rates.specs.Levels.{EnvelopeSettings, envelope_level, target_level, level_segment_at, level_motion, go, risen, rise}
use Rattle.block_rates.specs.Pitches.{PitchEnvelopeSettings, pitch_envelope_level, pitch_of, pitch_segment_at, pitch_motion, pitch_moved}
use Rattle.key_scale.specs.Operator.{operator_field}
use Rattle.key_scale.specs.Levels.{curve_height, on_side, key_scaling, velocity_part, whole_level, output_level}
use Rattle.note_voice.specs.Modulation.{vibrato, vibrato_depth, bend_pitch, tremolo, tremolo_depth, gain_of}
use Rattle.note_voice.specs.Note.{four_from, settings_at}

-- a stage that leads to where a value is, and leaves it there
record IsStill {S X : Type 0} (motion : Motion S X) (t : X) (s : S) : Type 0 where
  target : motion.target s ≡ t
  stays : (m : ℕ) → motion.go s t m ≡ t

abbrev AreStill : {S X : Type 0} → Motion S X → X → List S → Type 0
AreStill motion t [] = Unit {0}
AreStill motion t (s ∷ ss) = IsStill motion t s × AreStill motion t ss

both : {X : Type 0} (b : Bool) (x y t : X) → x ≡ t → y ≡ t → cond b x y ≡ t
both true x y t p q = p
both false x y t p q = q

after_still : {S X : Type 0} (motion : Motion S X) (t : X) (ss : List S) (k : ℕ) → AreStill motion t ss → after motion ss t k ≡ t
unfolding after
after_still motion t [] k h = refl
after_still motion t (s ∷ ss) k h = both _ _ _ t (ap (λ z. after motion ss z (k - lasts motion s t k)) h.0.target
    ∙ after_still motion t ss (k - lasts motion s t k) h.1) (h.0.stays k)

-- the lowest level of an operator's envelope
rise_low : (s : LevelSegment) (x : ℕ) → s.target ≡ 1048576 → rise s x ≡ 1048576
rise_low s x e =
    let r = (17 * 2 ^ 24 - max x (1716 * 65536)) / 2 ^ 24 * s.increment in
    let f : min 1048576 (max x (1716 * 65536) + r) ≡ 1048576 = omega arith in
    rw e f

risen_low : (s : LevelSegment) (m : ℕ) → s.target ≡ 1048576 → risen s m 1048576 ≡ 1048576
unfolding risen
risen_low s zero e = refl
risen_low s (suc m) e = ap (λ x. risen s m x) (rise_low s 1048576 e) ∙ risen_low s m e

go_low : (s : LevelSegment) (m : ℕ) → s.target ≡ 1048576 → go s 1048576 m ≡ 1048576
unfolding go
go_low s zero e = refl
go_low s (suc m) e =
    let f : max 1048576 (1048576 - suc m * s.increment) ≡ 1048576 = omega arith in
    rw e f

go_up : (s : LevelSegment) (m : ℕ) → s.target ≡ 1048576 → go s 0 (suc m) ≡ 1048576
unfolding go risen
go_up s m e =
    let low : max s.target (0 - suc m * s.increment) ≡ 1048576 = omega arith in
    both _ _ _ 1048576 low (ap (λ x. risen s m x) (rise_low s 0 e) ∙ risen_low s m e)

low_still : (s : LevelSegment) → s.target ≡ 1048576 → IsStill level_motion 1048576 s
low_still s e = record { target = e; stays = λ m. go_low s m e }

after_up : (s : LevelSegment) (ss : List LevelSegment) (k : ℕ) → s.target ≡ 1048576 → AreStill level_motion 1048576 ss
    → after level_motion (s ∷ ss) 0 (suc k) ≡ 1048576
unfolding after
after_up s ss k e h = both _ _ _ 1048576 (ap (λ z. after level_motion ss z (suc k - lasts level_motion s 0 (suc k))) e
    ∙ after_still level_motion 1048576 ss (suc k - lasts level_motion s 0 (suc k)) h) (go_up s k e)

after_none : (s : LevelSegment) (ss : List LevelSegment) → after level_motion (s ∷ ss) 0 0 ≡ 0
unfolding after first_from go
after_none s ss = refl

-- the level of an envelope whose first stages and last one lead to the lowest level
pub level_low : (s : EnvelopeSettings) (j : ℕ) (off : Option ℕ) → ((i : ℕ) → i < 4 → target_level (get_or s.levels i 0) s.out ≡ 1048576)
    → envelope_level s (j + 1) off ≡ 1048576
unfolding envelope_level four_stages
level_low s j None h =
    let up = after_up (level_segment_at s 0) (level_segment_at s 1 ∷ level_segment_at s 2
    ∷ []) j (h 0 (omega arith)) (low_still (level_segment_at s 1) (h 1 (omega arith)), (low_still (level_segment_at s 2) (h 2 (omega arith)), tt)) in
    rw add-one up
level_low s j (Some zero) h =
    let down = after_up (level_segment_at s 0) (level_segment_at s 1 ∷ level_segment_at s 2
    ∷ []) j (h 0 (omega arith)) (low_still (level_segment_at s 1) (h 1 (omega arith)), (low_still (level_segment_at s 2) (h 2 (omega arith)), tt)) in
    let up = after_up (level_segment_at s 3) [] j (h 3 (omega arith)) tt in
    let e : j + 1 - 0 ≡ suc j = omega arith in
    let first : after level_motion (level_segment_at s 0 ∷ level_segment_at s 1 ∷ level_segment_at s 2 ∷ []) 0 (j + 1) ≡ 1048576 = rw add-one down in
    both _ _ _ 1048576 first (ap (λ x. after level_motion (level_segment_at s 3 ∷ []) x (j + 1 - 0))
    (after_none (level_segment_at s 0) (level_segment_at s 1 ∷ level_segment_at s 2 ∷ [])) ∙ ap (after level_motion (level_segment_at s 3 ∷ []) 0) e ∙ up)
level_low s j (Some (suc o)) h =
    let down : (k : ℕ) → after level_motion (level_segment_at s 0 ∷ level_segment_at s 1 ∷ level_segment_at s 2 ∷ []) 0 (suc k) ≡ 1048576 = λ k.
    after_up (level_segment_at s 0) (level_segment_at s 1 ∷ level_segment_at s 2
    ∷ []) k (h 0 (omega arith)) (low_still (level_segment_at s 1) (h 1 (omega arith)), (low_still (level_segment_at s 2) (h 2 (omega arith)), tt)) in
    let first : after level_motion (level_segment_at s 0 ∷ level_segment_at s 1 ∷ level_segment_at s 2 ∷ []) 0 (j + 1) ≡ 1048576 = rw add-one (down j) in
    both _ _ _ 1048576 first (ap (λ x. after level_motion (level_segment_at s 3 ∷ []) x (j + 1 - suc o)) (down o)
    ∙ after_still level_motion 1048576 (level_segment_at s 3 ∷ []) (j + 1 - suc o) (low_still (level_segment_at s 3) (h 3 (omega arith)), tt))

entry_64 : power_entry 64 ≡ 1121280436
unfolding power_entry power power_by
entry_64 = ap (λ k. (power_by k 64 + 2 ^ 31) / 2 ^ 32) radical_10

entry_65 : power_entry 65 ≡ 1122039689
unfolding power_entry power power_by
entry_65 = ap (λ k. (power_by k 65 + 2 ^ 31) / 2 ^ 32) radical_10

-- the gain at the lowest level is too low to be heard
pub gain_low : gain_of (pos 1048576) (pos 0) ≡ pos 1069
unfolding gain_of exponential
gain_low = rw (entry_64, entry_65) refl

zero_times : (z : ℤ) → pos 0 *ℤ z ≡ pos 0
zero_times z = omega (arith, ints)

no_height : (keys : ℕ) → curve_height 0 0 keys ≡ 0
unfolding curve_height
no_height keys = omega arith

same_side : (d : ℤ) (z : ℤ) → on_side d z z ≡ z
same_side (pos d) z = refl
same_side (negsuc d) z = refl

no_velocity : (velocity : ℕ) → velocity_part 0 velocity ≡ pos 0
unfolding velocity_part
no_velocity velocity = rw zero_times refl

-- an operator with no level, no key scaling and no velocity
pub record HasNoLevel (voice : List ℕ) (operator : ℕ) : Type 0 where
  pub levels : four_from voice (21 * (6 - operator) + 4) ≡ 99 ∷ 99 ∷ 99 ∷ 0 ∷ []
  pub left_depth : operator_field voice operator 9 ≡ 0
  pub right_depth : operator_field voice operator 10 ≡ 0
  pub left_curve : operator_field voice operator 11 ≡ 0
  pub right_curve : operator_field voice operator 12 ≡ 0
  pub sensitivity : operator_field voice operator 15 ≡ 0
  pub setting : operator_field voice operator 16 ≡ 0

no_scaling : (voice : List ℕ) (operator : ℕ) (note : ℤ) → HasNoLevel voice operator → key_scaling voice operator note ≡ pos 0
unfolding key_scaling
no_scaling voice operator note h = rw (h.left_curve, h.left_depth, h.right_curve, h.right_depth) (simp no_height (same_side _ (pos 0)))

no_output : (voice : List ℕ) (operator : ℕ) (note : ℤ) (velocity : ℕ) → HasNoLevel voice operator → output_level voice operator note velocity ≡ pos 0
unfolding whole_level level
no_output voice operator note velocity h = rw (h.setting, no_scaling voice operator note h, h.sensitivity, no_velocity velocity) refl

off_level_0 : target_level 99 0 ≡ 1048576
unfolding target_level level
off_level_0 = refl

off_level_3 : target_level 0 0 ≡ 1048576
unfolding target_level level
off_level_3 = refl

off_levels : (i : ℕ) → i < 4 → target_level (get_or (99 ∷ 99 ∷ 99 ∷ 0 ∷ []) i 0) 0 ≡ 1048576
off_levels zero lt = off_level_0
off_levels (suc zero) lt = off_level_0
off_levels (suc (suc zero)) lt = off_level_0
off_levels (suc (suc (suc zero))) lt = off_level_3
off_levels (suc (suc (suc (suc i)))) lt = absurd (omega arith)

pub off_level : (voice : List ℕ) (operator : ℕ) (note : ℤ) (velocity j : ℕ) (off : Option ℕ) → HasNoLevel voice operator
    → envelope_level (settings_at voice operator note velocity) (j + 1) off ≡ 1048576
off_level voice operator note velocity j off h = level_low (settings_at voice operator note velocity) j off (λ i lt.
    ap (λ ls. target_level (get_or ls i 0) (unsigned_abs (output_level voice operator note velocity))) h.levels
    ∙ ap (λ z. target_level (get_or (99 ∷ 99 ∷ 99 ∷ 0 ∷ []) i 0) (unsigned_abs z)) (no_output voice operator note velocity h) ∙ off_levels i lt)

pub off_in_opening : (operator : ℕ) → 2 ≤ operator → operator ≤ 6 → HasNoLevel opening_voice operator
unfolding opening_voice
off_in_opening zero lo hi = absurd (omega arith)
off_in_opening (suc zero) lo hi = absurd (omega arith)
off_in_opening (suc (suc zero)) lo hi = record {
  levels = refl;
  left_depth = refl;
  right_depth = refl;
  left_curve = refl;
  right_curve = refl;
  sensitivity =
      refl;
  setting = refl;
}
off_in_opening (suc (suc (suc zero))) lo hi = record {
  levels = refl;
  left_depth = refl;
  right_depth = refl;
  left_curve = refl;
  right_curve =
      refl;
  sensitivity = refl;
  setting = refl;
}
off_in_opening (suc (suc (suc (suc zero)))) lo hi = record {
  levels = refl;
  left_depth = refl;
  right_depth = refl;
  left_curve = refl;
  right_curve =
      refl;
  sensitivity = refl;
  setting = refl;
}
off_in_opening (suc (suc (suc (suc (suc zero))))) lo hi = record {
  levels = refl;
  left_depth = refl;
  right_depth = refl;
  left_curve = refl;
  right_curve =
      refl;
  sensitivity = refl;
  setting = refl;
}
off_in_opening (suc (suc (suc (suc (suc (suc zero)))))) lo hi = record {
  levels = refl;
  left_depth = refl;
  right_depth = refl;
  left_curve = refl;
  right_curve =
      refl;
  sensitivity = refl;
  setting = refl;
}
off_in_opening (suc (suc (suc (suc (suc (suc (suc k))))))) lo hi = absurd (omega arith)

-- with no depth there is no drop
pub no_tremolo : (sensitivity lfo_depth : ℕ) (lfo : ℤ) → tremolo (tremolo_depth 0 sensitivity lfo_depth) lfo ≡ pos 0
unfolding tremolo tremolo_depth
no_tremolo sensitivity lfo_depth lfo =
    let e : 0 * amplitude_sensitivity sensitivity * lfo_depth / 2 ^ 24 ≡ 0 = omega arith in
    rw (e, zero_times) refl

-- with no depth and no wheel there is no vibrato
pub no_vibrato : (lfo_depth sensitivity : ℕ) (lfo : ℤ) → vibrato (vibrato_depth 0 lfo_depth 0) sensitivity lfo ≡ pos 0
unfolding vibrato vibrato_depth
no_vibrato lfo_depth sensitivity lfo =
    let e : max (0 * lfo_depth) 0 ≡ 0 = omega arith in
    rw (e, zero_times (pos (pitch_sensitivity sensitivity)), zero_times) refl

pub no_bend : bend_pitch 8192 ≡ pos 0
unfolding bend_pitch
no_bend = refl

middle : pitch_of 50 ≡ pos 0
unfolding pitch_of pitch_level
middle = refl

moved_still : (g : PitchSegment) (m : ℕ) → g.target ≡ pos 0 → pitch_moved g (pos 0) m ≡ pos 0
unfolding pitch_moved
moved_still g m e =
    let f : int_max (pos 0) (pos 0 -ℤ pos (m * g.increment)) ≡ pos 0 = omega (arith, ints, clamps) in
    rw e f

middle_still : (g : PitchSegment) → g.target ≡ pos 0 → IsStill pitch_motion (pos 0) g
middle_still g e = record { target = e; stays = λ m. moved_still g m e }

still_by : (s : PitchEnvelopeSettings) (j : ℕ) (off : Option ℕ) → ((k : ℕ)
    → after pitch_motion (pitch_segment_at s 0 ∷ pitch_segment_at s 1 ∷ pitch_segment_at s 2 ∷ []) (pitch_of (get_or s.levels 3 0)) k ≡ pos 0)
    → IsStill pitch_motion (pos 0) (pitch_segment_at s 3) → pitch_envelope_level s j off ≡ pos 0
unfolding pitch_envelope_level four_stages
still_by s j None down d = down j
still_by s j (Some off) down d = both _ _ _ (pos 0) (down j) (ap (λ x. after pitch_motion (pitch_segment_at s 3 ∷ []) x (j - off)) (down off)
    ∙ after_still pitch_motion (pos 0) (pitch_segment_at s 3 ∷ []) (j - off) (d, tt))

-- the level of a pitch envelope whose levels are all in the middle
pub pitch_still : (s : PitchEnvelopeSettings) (j : ℕ) (off : Option ℕ) → s.levels ≡ 50 ∷ 50 ∷ 50 ∷ 50 ∷ [] → pitch_envelope_level s j off ≡ pos 0
pitch_still s j off h =
    let a : IsStill pitch_motion (pos 0) (pitch_segment_at s 0) = middle_still _ (rw h middle) in
    let b : IsStill pitch_motion (pos 0) (pitch_segment_at s 1) = middle_still _ (rw h middle) in
    let c : IsStill pitch_motion (pos 0) (pitch_segment_at s 2) = middle_still _ (rw h middle) in
    let d : IsStill pitch_motion (pos 0) (pitch_segment_at s 3) = middle_still _ (rw h middle) in
    let start : pitch_of (get_or s.levels 3 0) ≡ pos 0 = rw h middle in
    let down : (k : ℕ) → after pitch_motion (pitch_segment_at s 0 ∷ pitch_segment_at s 1 ∷ pitch_segment_at s 2
    ∷ []) (pitch_of (get_or s.levels 3 0)) k ≡ pos 0 = λ k. rw start (after_still pitch_motion (pos 0) (pitch_segment_at s 0 ∷ pitch_segment_at s 1
    ∷ pitch_segment_at s 2 ∷ []) k (a, (b, (c, tt)))) in
    still_by s j off down d
