-- Two files compared byte by byte.
use Rattle.std.specs.Prelude.{ℕ, ◌≡◌, ◌≢◌, ◌+◌, ◌<◌, ◌≤◌, List, ◌++◌, take, length, slice_get, Option, Some, None}
use Rattle.tool_core.specs.declared.comparison.Comparison.{Comparison}
use Rattle.tool_core.specs.declared.comparison.Comparison.TheVariants.{Same, Differs}

-- the first offset at which two files differ: they have the same bytes before it, and another byte at it, or one of them ends there
pub record DiffersAt (file other : List ℕ) (offset : ℕ) : Type 0 where
  pub prefix : take offset file ≡ take offset other
  pub differs : slice_get file offset ≢ slice_get other offset

-- the first offset at which they differ, or none where they are the same
abbrev pub IsCompared : List ℕ → List ℕ → Option ℕ → Type 0
IsCompared file other None = file ≡ other
IsCompared file other (Some offset) = DiffersAt file other offset

-- the first offset at which a file differs from the bytes that it should begin with, or none where it begins with them
abbrev pub IsPrefix : List ℕ → List ℕ → Option ℕ → Type 0
IsPrefix file prefix None = (rest : List ℕ) × (file ≡ prefix ++ rest)
IsPrefix file prefix (Some offset) = (offset < length prefix) × DiffersAt file prefix offset

-- a step goes at least one byte further, and within so many
abbrev pub IsWithin : Comparison → ℕ → Type 0
IsWithin (Same count) most = (0 < count) × (count ≤ most)
IsWithin (Differs offset) most = offset < most

-- a read that gave so many bytes, all of them the same, went on by so many
abbrev pub IsWhole : Comparison → ℕ → Type 0
IsWhole (Same count) size = count ≡ size
IsWhole (Differs offset) size = Unit {0}

abbrev pub GoesOn : Comparison → ℕ → ℕ → Type 0
GoesOn (Same count) before now = now ≡ before + count
GoesOn (Differs offset) before now = Unit {0}

-- the first bytes are the same, or they differ
abbrev pub IsStep : Comparison → List ℕ → List ℕ → Type 0
IsStep (Same count) file prefix = take count file ≡ take count prefix
IsStep (Differs offset) file prefix = DiffersAt file prefix offset
