-- Stages one after the other: each moves a value from where it was entered until it is at the stage's target.
use Rattle.std.specs.Prelude.{ℕ, zero, suc, ◌-◌, Bool, nat_lt, nat_le, if◌then◌else◌, List, [], ◌∷◌, Option, Some, None}

-- how stages of one kind move values: where a stage leads, whether a value is there, and the value m steps after the stage is entered at x
pub record Motion (S X : Type 0) : Type 0 where
  pub target : S → X
  pub is_there : S → X → Bool
  pub go : S → X → ℕ → X

-- the first of c numbers from m on that passes, or the one after them
unfoldable pub first_from : ℕ → (ℕ → Bool) → ℕ → ℕ
first_from zero passes m = m
first_from (suc c) passes m = if passes m then m else first_from c passes (suc m)

-- how long a stage lasts that is entered at x: the least m from 1 on after which it is at its target, looked for below k
abbrev pub lasts : {S X : Type 0} → Motion S X → S → X → ℕ → ℕ
lasts motion s x k = first_from (k - 1) (λ m. motion.is_there s (motion.go s x m)) 1

-- the value k steps after the first of the stages is entered at x; it stays at the last target
unfoldable pub after : {S X : Type 0} → Motion S X → List S → X → ℕ → X
after motion [] x k = x
after motion (s ∷ ss) x k =
    if nat_lt (lasts motion s x k) k then after motion ss (motion.target s) (k - lasts motion s x k) else motion.go s x k

-- the value k steps after stages 0, 1 and 2 begin at `start`
abbrev pub while_down : {S X : Type 0} → Motion S X → X → (ℕ → S) → ℕ → X
while_down motion start stages k = after motion (stages 0 ∷ stages 1 ∷ stages 2 ∷ []) start k

-- the value k steps after the stages begin, where the key is released after `off` steps, or never: stage 3 is entered then, wherever the value is
unfoldable pub four_stages : {S X : Type 0} → Motion S X → X → (ℕ → S) → ℕ → Option ℕ → X
four_stages motion start stages k None = while_down motion start stages k
four_stages motion start stages k (Some off) =
    if nat_le k off then while_down motion start stages k
    else after motion (stages 3 ∷ []) (while_down motion start stages off) (k - off)

-- the steps before the key was released, where it is released after k steps: what counts is the first time
abbrev pub released_after : ℕ → Option ℕ → Option ℕ
released_after k None = Some k
released_after k (Some off) = Some off
