-- The checksum of a payload.
use Rattle.std.specs.Prelude.{ℕ, ◌≡◌, ◌+◌, ◌-◌, ◌%◌, ◌<◌, List}
use Rattle.std.specs.List.{sum}

-- the seven-bit number that brings the sum of the bytes to a multiple of 128
pub record IsChecksum (bytes : List ℕ) (check : ℕ) : Type 0 where
  pub below : check < 128
  pub whole : (sum bytes + check) % 128 ≡ 0

-- that number
abbrev pub checksum_of : List ℕ → ℕ
checksum_of bytes = (128 - sum bytes % 128) % 128
