-- The time of a tick, and the block at which its commands are due.
use Rattle.std.specs.Prelude.{ℕ, ◌+◌, ◌-◌, ◌*◌, ◌/◌, nat_le, List, [], ◌∷◌, ◌++◌, if◌then◌else◌}
use Rattle.midi_file.specs.Track.{ActData, Sets, Plays, TimedData}

-- a change of the tempo at a tick
pub record Change : Type 0 where
  pub tick : ℕ
  pub tempo : ℕ

abbrev pub change_at : ℕ → ActData → List Change
change_at tick (Sets tempo) = record { tick = tick; tempo = tempo } ∷ []
change_at tick (Plays command) = []

-- the changes of the tempo among what happens, in that order
unfoldable pub changes_in : List TimedData → List Change
changes_in [] = []
changes_in (e ∷ later) = change_at e.tick e.act ++ changes_in later

-- The time from one tick to another, in ticks times microseconds for a quarter note: the sum over the stretches between the changes in
-- order, each with the tempo in force there.
unfoldable pub time_between : ℕ → ℕ → List Change → ℕ → ℕ
time_between tempo from [] tick = (tick - from) * tempo
time_between tempo from (change ∷ later) tick =
    if nat_le tick change.tick then (tick - from) * tempo
    else (change.tick - from) * tempo + time_between change.tempo change.tick later tick

-- the tempo before the first change: 120 quarter notes a minute
abbrev pub first_tempo : ℕ
first_tempo = 500000

-- the time of a tick
abbrev pub time_of : List Change → ℕ → ℕ
time_of changes tick = time_between first_tempo 0 changes tick

-- the block of a time: 44100 samples a second, 64 of them a block
abbrev pub block_of : ℕ → ℕ → ℕ
block_of division time = time * 44100 / (division * 64000000)
