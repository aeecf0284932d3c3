-- How long a run may be.
use Rattle.std.specs.Prelude.{ℕ}

-- the most blocks of a run, a little more than 25 minutes
abbrev pub block_limit : ℕ
block_limit = 1048576
