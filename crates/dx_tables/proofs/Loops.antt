-- A loop that goes through an array: what holds of the elements that it has written, and of those that it hasn't.
use Rattle.std.proofs.Common.{ℕ, ◌≢◌, ◌+◌, ◌<◌, ◌≤◌, List, length, get_or, set, arith, below_more, get_or-set_same, get_or-set_other}

-- element n is written: what held of those below n holds of one more
pub set_more :
    {A : Type 0} (P : ℕ → A → Type 0) (xs : List A) (n : ℕ) (v d : A) → n < length xs → ((k : ℕ) → k < n → P k (get_or xs k d)) → P n v
    → (k : ℕ) → k < n + 1 → P k (get_or (set xs n v) k d)
set_more P xs n v d lt done here =
    below_more (λ k. P k (get_or (set xs n v) k d)) n
    (λ k l. let ne : k ≢ n = omega arith in rw get_or-set_other (done k l))
    (rw get_or-set_same here)

-- what holds of an element above n still does
pub set_rest : {A : Type 0} (P : A → Type 0) (xs : List A) (n : ℕ) (v d : A) (k : ℕ) → n + 1 ≤ k → P (get_or xs k d) → P (get_or (set xs n v) k d)
set_rest P xs n v d k le h = let ne : k ≢ n = omega arith in rw get_or-set_other h
