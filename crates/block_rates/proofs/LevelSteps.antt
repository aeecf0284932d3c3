-- Stages of an operator's envelope run on step by step.
use Rattle.std.proofs.Common.{◌≡◌, ◌≢◌, ℕ, zero, suc, ◌-◌, ◌*◌, ◌<◌, ◌≤◌, max, false, inl, inr, refl, ap, sym, ◌∙◌, ◌==◌, arith}
use Rattle.std.proofs.lemmas.Bool.{eqb-true, le-leb, lt-leb}
use Rattle.std.proofs.Common.{eq-eqb}
use Rattle.block_rates.specs.declared.level_segment.LevelSegment.{LevelSegment}
use Rattle.block_rates.specs.Levels.{rise, risen, go, level_motion}
use Rattle.block_rates.specs.Segments.{RunsOn}
use Rattle.block_rates.proofs.StageRuns.{lt_or_le}

falling : (s : LevelSegment) (x m : ℕ) → s.target ≤ x → go s x (suc m) ≡ max s.target (x - suc m * s.increment)
unfolding go
falling s x m le = rw (le-leb s.target x le)

rising : (s : LevelSegment) (x m : ℕ) → x < s.target → go s x (suc m) ≡ risen s (suc m) x
unfolding go
rising s x m lt = rw (lt-leb s.target x lt)

pub rising_one : (s : LevelSegment) (x : ℕ) → x < s.target → go s x 1 ≡ rise s x
unfolding go risen
rising_one s x lt = rw (lt-leb s.target x lt)

pub falling_one : (s : LevelSegment) (x : ℕ) → s.target ≤ x → go s x 1 ≡ max s.target (x - s.increment)
falling_one s x le = falling s x 0 le ∙ omega arith

below_target : (s : LevelSegment) (x : ℕ) → rise s x ≢ s.target → rise s x < s.target
below_target s x ne = omega arith

above_target : (t z : ℕ) → max t z ≢ t → t < z
above_target t z ne = omega arith

-- a stage that has not ended goes on from the level that it left
go_on : (s : LevelSegment) (x j : ℕ) → go s x 1 ≢ s.target → go s x (suc j) ≡ go s (go s x 1) j
unfolding go risen
go_on s x zero ne = refl
go_on s x (suc j) ne =
    elim (lt_or_le x s.target) [
      | inl lt ↦
          let e : go s x 1 ≡ rise s x = rising_one s x lt in
          let below : rise s x < s.target = below_target s x (λ h. ne (e ∙ h)) in
          rising s x (suc j) lt ∙ sym (rising s (rise s x) j below) ∙ ap (λ z. go s z (suc j)) (sym e)
      | inr le ↦
          let e : go s x 1 ≡ max s.target (x - s.increment) = falling_one s x le in
          let above : s.target < x - s.increment = above_target s.target (x - s.increment) (λ h. ne (e ∙ h)) in
          let z = x - s.increment in
          let f : max s.target z ≡ z = omega arith in
          let g : max s.target (x - suc (suc j) * s.increment) ≡ max s.target (z - suc j * s.increment) = omega arith in
          falling s x (suc j) le ∙ g ∙ sym (falling s z j (omega arith)) ∙ ap (λ w. go s w (suc j)) (sym (e ∙ f))
    ]

stays_at : (s : LevelSegment) (m : ℕ) → go s s.target m ≡ s.target
unfolding go
stays_at s zero = refl
stays_at s (suc m) = falling s s.target m (omega arith) ∙ omega arith

differs : (a b : ℕ) → (a == b) ≡ false → a ≢ b
differs a b e h = let f = eq-eqb a b h in cc

begins_at : (s : LevelSegment) (x : ℕ) → go s x 0 ≡ x
unfolding go
begins_at s x = refl

pub level_runs : RunsOn level_motion
level_runs = record {
  begins = begins_at;
  arrives = λ s x e. eqb-true x s.target e;
  stays = stays_at;
  goes_on = λ s x m e. go_on s x m (differs (go s x 1) s.target e);
}
