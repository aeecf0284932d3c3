-- A sum of notes: 64 numbers of 64 bits.
use Rattle.std.specs.Prelude.{ℕ, ◌≡◌, ◌<◌, ◌≤◌, List, length, slice_index_or, ℤ, pos, ◌+ℤ◌, unsigned_abs}

-- a sum of notes grew by these 64 samples
pub record IsAdded (y : ℕ → ℤ) (old new : List ℤ) : Type 0 where
  pub len : length new ≡ 64
  pub sample : (j : ℕ) → j < 64 → slice_index_or new j (pos 0) ≡ slice_index_or old j (pos 0) +ℤ y j

-- a sum of notes is far from the ends of 64 bits
abbrev pub IsSmall : ℕ → List ℤ → Type 0
IsSmall bound xs = (j : ℕ) → j < 64 → unsigned_abs (slice_index_or xs j (pos 0)) ≤ bound
