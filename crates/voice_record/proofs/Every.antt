-- A test of each number below a bound, computed by the check, and what it tells of one of them.
use Rattle.std.proofs.Common.{◌≡◌, ℕ, zero, suc, ◌<◌, Bool, true, ◌&&◌, arith, sym, subst, inl, inr}
use Rattle.std.proofs.lemmas.Bool.{cases_lt, and_parts}

unfoldable pub every : (ℕ → Bool) → ℕ → Bool
every test zero = true
every test (suc n) = test n && every test n

-- what holds of each number below a bound holds of one of them
pub every_at : (test : ℕ → Bool) (n : ℕ) → every test n ≡ true → (k : ℕ) → k < n → test k ≡ true
unfolding every
every_at test zero h k l = absurd (omega (arith, l))
every_at test (suc n) h k l =
    elim (cases_lt k n) [
      | inl a ↦ every_at test n ((and_parts (test n) (every test n) h).1) k a
      | inr b ↦ (let e : k ≡ n = omega arith in subst (λ m. test m ≡ true) (sym e) ((and_parts (test n) (every test n) h).0))
    ]
