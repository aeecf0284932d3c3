-- An LFO runs on step by step.
use Rattle.std.proofs.Common.{◌≡◌, ℕ, suc, ◌+◌, ◌/◌, ◌%◌, ◌^◌, ◌<◌, Bool, true, false, cond, ltb, inl, inr, refl, arith}
use Rattle.std.proofs.lemmas.Bool.{lt-ltb, le-ltb}
use Rattle.block_rates.specs.Waves.{is_held, wave_of}
use Rattle.block_rates.specs.Lfos.{LfoState, times, next_random, phase_increment, run_of, phase_after, random_after, next_delay_state, delay_state_after}
use Rattle.block_rates.proofs.StageRuns.{lt_or_le}

pub phase_small : (o : LfoState) (m : ℕ) → phase_after o m < 2 ^ 32
unfolding phase_after
phase_small o m = omega arith

pub phase_begins : (o : LfoState) → o.phase < 2 ^ 32 → phase_after o 0 ≡ o.phase
unfolding phase_after
phase_begins o h = omega arith

same_random : (b : Bool) (r : ℕ) → cond b r r ≡ r
same_random true r = refl
same_random false r = refl

pub random_begins : (o : LfoState) → o.phase < 2 ^ 32 → random_after o 0 ≡ o.random
unfolding random_after times
random_begins o h =
    let z : run_of o 0 / 2 ^ 32 ≡ 0 = omega arith in
    rw z (same_random (is_held (wave_of o.settings.wave)) o.random)

pub delay_begins : (o : LfoState) → delay_state_after o 0 ≡ o.delay_state
unfolding delay_state_after times
delay_begins o = refl

run_more : (o : LfoState) (m : ℕ) → run_of o (m + 1) ≡ run_of o m + phase_increment o.settings.speed
run_more o m = omega arith

pub phase_more : (o : LfoState) (m : ℕ) → (phase_after o m + phase_increment o.settings.speed) % 2 ^ 32 ≡ phase_after o (m + 1)
unfolding phase_after
phase_more o m = omega arith

-- a cycle ends in a step exactly where the phase is then below the phase increment
more_cycles : (x increment : ℕ) (f : ℕ → ℕ) (r : ℕ) → increment < 2 ^ 32 → times ((x + increment) / 2 ^ 32) f r ≡ cond
    (ltb ((x + increment) % 2 ^ 32) increment) (f (times (x / 2 ^ 32) f r)) (times (x / 2 ^ 32) f r)
unfolding times
more_cycles x increment f r small =
    elim (lt_or_le ((x + increment) % 2 ^ 32) increment) [
      | inl lt ↦
          let e : (x + increment) / 2 ^ 32 ≡ suc (x / 2 ^ 32) = omega arith in
          rw (lt-ltb ((x + increment) % 2 ^ 32) increment lt, e) refl
      | inr le ↦
          let e : (x + increment) / 2 ^ 32 ≡ x / 2 ^ 32 = omega arith in
          rw (le-ltb ((x + increment) % 2 ^ 32) increment le, e) refl
    ]

held_more : (b : Bool) (x increment : ℕ) (f : ℕ → ℕ) (r : ℕ) → increment < 2 ^ 32
    → cond b (times ((x + increment) / 2 ^ 32) f r) r ≡ cond b (cond (ltb ((x + increment) % 2 ^ 32) increment) (f (cond b (times (x / 2 ^ 32) f r) r))
    (cond b (times (x / 2 ^ 32) f r) r)) (cond b (times (x / 2 ^ 32) f r) r)
held_more true x increment f r small = more_cycles x increment f r small
held_more false x increment f r small = refl

pub random_more : (o : LfoState) (m : ℕ) → phase_increment o.settings.speed < 2 ^ 32
    → random_after o (m + 1) ≡ cond (is_held (wave_of o.settings.wave)) (cond (ltb (phase_after o (m + 1)) (phase_increment o.settings.speed))
    (next_random (random_after o m)) (random_after o m)) (random_after o m)
unfolding random_after phase_after
random_more o m small =
    rw (run_more o m) (held_more (is_held (wave_of o.settings.wave)) (run_of o m) (phase_increment o.settings.speed) next_random o.random small)

pub delay_more : (o : LfoState) (m : ℕ) → delay_state_after o (m + 1) ≡ next_delay_state o.settings.delay (delay_state_after o m)
unfolding delay_state_after times
delay_more o m = let e : m + 1 ≡ suc m = omega arith in rw e refl
