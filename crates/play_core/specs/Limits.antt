-- The limits of a run.
use Rattle.std.specs.Prelude.{ℕ}

-- the most bytes of a script, and of all scripts of a run together
abbrev pub script_limit : ℕ
script_limit = 16777216

abbrev pub scripts_limit : ℕ
scripts_limit = 67108864

-- the most commands of a run, and the most places of the line
abbrev pub command_limit : ℕ
command_limit = 1000000

abbrev pub place_limit : ℕ
place_limit = 1000000
