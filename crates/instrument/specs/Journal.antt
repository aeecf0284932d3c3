-- A journal lists commands with the block at which each was taken; it determines the sound of every block.
use Rattle.std.specs.Prelude.{ℕ, zero, suc, ◌==◌, List, [], ◌∷◌, map, filter, ℤ}
use Rattle.command_set.specs.Command.{CommandData}
use Rattle.command_set.specs.Entries.{LoggedData}
use Rattle.instrument.specs.State.{State, opening, apply, passed, samples}

-- the commands that were taken at a block, in order
abbrev pub commands_at : List LoggedData → ℕ → List CommandData
commands_at journal b = map (λ l. l.entry.command) (filter (λ l. l.block == b) journal)

-- commands one after the other
abbrev pub applied : State → List CommandData → State
applied s [] = s
applied s (c ∷ cs) = applied (apply s c) cs

-- the state in which block b is rendered
unfoldable pub state_at : List LoggedData → ℕ → State
state_at journal zero = applied opening (commands_at journal 0)
state_at journal (suc b) = applied (passed (state_at journal b)) (commands_at journal (suc b))

-- the 64 samples of block b
unfoldable pub sound : List LoggedData → ℕ → List ℤ
sound journal b = samples (state_at journal b)
