-- A stage has no memory: what comes after one step is what comes from the value that it left. So one step of a run of stages leaves a run of stages.
use Rattle.std.proofs.Common.{◌≡◌, ℕ, zero, suc, ◌+◌, ◌-◌, ◌<◌, ◌≤◌, Bool, true, false, cond, ltb, inl, inr, ◌⊎◌, List, [], ◌∷◌, refl, ap, sym, ◌∙◌, arith}
use Rattle.std.proofs.lemmas.Bool.{ltb-true, ltb-false, lt-ltb, le-ltb}
use Rattle.block_rates.specs.Stages.{Motion, first_from, lasts, after}
use Rattle.block_rates.specs.Segments.{RunsOn}

lt_or_le_by : (a b : ℕ) (t : Bool) → ltb a b ≡ t → (a < b) ⊎ (b ≤ a)
lt_or_le_by a b true e = inl (ltb-true a b e)
lt_or_le_by a b false e = inr (ltb-false a b e)

pub lt_or_le : (a b : ℕ) → (a < b) ⊎ (b ≤ a)
lt_or_le a b = lt_or_le_by a b (ltb a b) refl

by_test : (t : Bool) (m k : ℕ) → cond t (suc m) (suc k) ≡ suc (cond t m k)
by_test true m k = refl
by_test false m k = refl

-- the search for the end goes on in the same way
first_later : (c m : ℕ) (p q : ℕ → Bool) → ((j : ℕ) → p (suc j) ≡ q j) → first_from c p (suc m) ≡ suc (first_from c q m)
unfolding first_from
first_later zero m p q same = refl
first_later (suc c) m p q same =
    rw (same m, first_later c (suc m) p q same) (by_test (q m) m (first_from c q (suc m)))

module _ {S X : Type 0} (motion : Motion S X) (laws : RunsOn motion) where
  pub after_zero : (ss : List S) (x : X) → after motion ss x 0 ≡ x
  unfolding after first_from
  after_zero [] x = refl
  after_zero (s ∷ ss) x = laws.begins s x

  lasts_one : (s : S) (x : X) (n : ℕ) → motion.is_there s (motion.go s x 1) ≡ true → lasts motion s x (suc n + 1) ≡ 1
  unfolding first_from
  lasts_one s x n e =
      let d : suc n + 1 - 1 ≡ suc n = omega arith in
      rw d (rw e)

  lasts_more : (s : S) (x : X) (n : ℕ) → motion.is_there s (motion.go s x 1) ≡ false
      → lasts motion s x (suc n + 1) ≡ suc (lasts motion s (motion.go s x 1) (suc n))
  unfolding first_from
  lasts_more s x n e =
      let d : suc n + 1 - 1 ≡ suc n = omega arith in
      let f : suc n - 1 ≡ n = omega arith in
      rw (d, f) (rw e
      (first_later n 1 (λ m. motion.is_there s (motion.go s x m)) (λ m. motion.is_there s (motion.go s (motion.go s x 1) m)) (λ j.
      ap (motion.is_there s) (laws.goes_on s x j e))))

  -- a step that reaches the target
  pub after_step_ends : (s : S) (ss : List S) (x : X) (n : ℕ) → motion.is_there s (motion.go s x 1) ≡ true
      → after motion (s ∷ ss) x (n + 1) ≡ after motion ss (motion.target s) n
  unfolding after first_from
  after_step_ends s ss x zero e = laws.arrives s _ e ∙ sym (after_zero ss (motion.target s))
  after_step_ends s ss x (suc n) e =
      let l = lasts_one s x n e in
      let lt : 1 < suc n + 1 = omega arith in
      rw (l, lt-ltb 1 (suc n + 1) lt) (ap (after motion ss (motion.target s)) (omega arith))

  -- a step that does not
  pub after_step_goes_on : (s : S) (ss : List S) (x : X) (n : ℕ) → motion.is_there s (motion.go s x 1) ≡ false
      → after motion (s ∷ ss) x (n + 1) ≡ after motion (s ∷ ss) (motion.go s x 1) n
  unfolding after first_from
  after_step_goes_on s ss x zero e = sym (laws.begins s (motion.go s x 1))
  after_step_goes_on s ss x (suc n) e =
      let l = lasts_more s x n e in
      let m = lasts motion s (motion.go s x 1) (suc n) in
      elim (lt_or_le m (suc n)) [
        | inl lt ↦
            let a : suc m < suc n + 1 = omega arith in
            rw (l, lt-ltb (suc m) (suc n + 1) a, lt-ltb m (suc n) lt) (ap (after motion ss (motion.target s)) (omega arith))
        | inr le ↦
            let a : suc n + 1 ≤ suc m = omega arith in
            let b : suc n + 1 ≡ suc (suc n) = omega arith in
            rw (l, le-ltb (suc m) (suc n + 1) a, le-ltb m (suc n) le) (ap (motion.go s x) b ∙ laws.goes_on s x (suc n) e)
      ]

  -- a value at the target of the last stage stays there
  pub after_there : (s : S) (n : ℕ) → after motion (s ∷ []) (motion.target s) n ≡ motion.target s
  unfolding after
  after_there s n = elim (ltb (lasts motion s (motion.target s) n) n) as (λ t.
      cond t (motion.target s) (motion.go s (motion.target s) n) ≡ motion.target s) [ true ↦ refl | false ↦ laws.stays s n ]
