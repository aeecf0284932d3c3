-- A linear congruential generator of 64 bits, and the numbers that are generated from it.
use Rattle.std.specs.Prelude.{ℕ, zero, suc, ◌+◌, ◌*◌, ◌/◌, ◌%◌, ◌^◌}

-- the state after a state
unfoldable pub next : ℕ → ℕ
next x = (x * 6364136223846793005 + 1442695040888963407) % 2 ^ 64

-- the state after so many lcg
unfoldable pub state : ℕ → ℕ → ℕ
state seed zero = seed
state seed (suc k) = next (state seed k)

-- the number below n that a state gives: its upper 31 bits, modulo n
unfoldable pub below : ℕ → ℕ → ℕ
below n x = x / 2 ^ 33 % n

-- the k-th number that is generated, from 1 on, below n
abbrev pub number_at : ℕ → ℕ → ℕ → ℕ
number_at seed k n = below n (state seed k)
