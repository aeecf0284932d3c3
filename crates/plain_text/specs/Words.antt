-- Words.
use Rattle.std.specs.Prelude.{ℕ, Bool, nat_lt, List, length}

-- a word has one byte at least
abbrev pub is_nonempty : List ℕ → Bool
is_nonempty word = nat_lt 0 (length word)
