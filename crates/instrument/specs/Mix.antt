-- For private functions and proofs: the sum of no notes.
use Rattle.std.specs.Prelude.{ℕ, ◌≡◌, ◌<◌, List, slice_index_or, ℤ, pos}

abbrev pub AreZeros : List ℤ → Type 0
AreZeros xs = (j : ℕ) → j < 64 → slice_index_or xs j (pos 0) ≡ pos 0
