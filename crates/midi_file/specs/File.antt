-- What comes of a MIDI file: its first fault, or its commands at their blocks.
use Rattle.std.specs.Prelude.{ℕ, ◌≤◌, ◌||◌, nat_le, nat_lt, Bool, List, [], ◌∷◌, Option, if◌then◌else◌}
use Rattle.std.specs.List.{flat_map}
use Rattle.script_plan.specs.Plan.{planned_at}
use Rattle.script_outcome.specs.declared.fault.Place.TheVariants as place
use Rattle.script_outcome.specs.declared.fault.ScriptKind.TheVariants as kind
use Rattle.script_outcome.specs.Outcomes.{Outcome, Gives, Fails, is_late}
use Rattle.midi_file.specs.Track.{ActData, Sets, Plays, TimedData, TrackOutcome, Comes, Breaks}
use Rattle.midi_file.specs.Chunks.{division_of, file_outcomes}
use Rattle.midi_file.specs.Time.{Change, block_of, changes_in, time_of}

-- the first fault, if there is one
abbrev pub first_fault : List TrackOutcome → List Outcome
first_fault [] = []
first_fault (Comes e ∷ later) = first_fault later
first_fault (Breaks at why ∷ later) = Fails (place.Byte at) why ∷ []

-- the acts
abbrev pub acts_in : List TrackOutcome → List TimedData
acts_in [] = []
acts_in (Comes e ∷ later) = e ∷ acts_in later
acts_in (Breaks at why ∷ later) = acts_in later

-- an act before the first one of the same or of a later tick
unfoldable pub put_in_order : TimedData → List TimedData → List TimedData
put_in_order e [] = e ∷ []
put_in_order e (f ∷ later) = if nat_le e.tick f.tick then e ∷ f ∷ later else f ∷ put_in_order e later

-- In the order of ticks. Those of one tick keep the order that they have: by track, and in a track by place.
unfoldable pub in_order : List TimedData → List TimedData
in_order [] = []
in_order (e ∷ later) = put_in_order e (in_order later)

-- the ticks don't fall, and none is below a number
abbrev pub IsInTime : ℕ → List TimedData → Type 0
IsInTime least [] = Unit {0}
IsInTime least (e ∷ later) = (least ≤ e.tick) × IsInTime e.tick later

-- a command is late at a block that is above the greatest or not one of the run's
abbrev pub is_too_late : Option ℕ → ℕ → Bool
is_too_late blocks block = nat_lt 4294967295 block || is_late blocks block

-- what comes of an act with its block; the place of its event is that of a fault
abbrev pub act_outcomes : Option ℕ → ℕ → ℕ → ActData → List Outcome
act_outcomes blocks at block (Sets tempo) = []
act_outcomes blocks at block (Plays command) =
    if is_too_late blocks block then Fails (place.Byte at) kind.Late ∷ [] else Gives (planned_at block command) ∷ []

abbrev pub timed_outcomes : Option ℕ → ℕ → List Change → TimedData → List Outcome
timed_outcomes blocks division changes e = act_outcomes blocks e.place (block_of division (time_of changes e.tick)) e.act

-- what comes of acts in order
unfoldable pub ordered_outcomes : Option ℕ → ℕ → List Change → List TimedData → List Outcome
ordered_outcomes blocks division changes events = flat_map (timed_outcomes blocks division changes) events

-- a fault alone, or else these outcomes
abbrev pub unless_refused : List Outcome → List Outcome → List Outcome
unless_refused [] outcomes = outcomes
unless_refused (fault ∷ later) outcomes = fault ∷ []

-- what comes of acts in order, all tempos of which act on all of them
abbrev pub timed_plan : Option ℕ → ℕ → List TimedData → List Outcome
timed_plan blocks division events = ordered_outcomes blocks division (changes_in events) events

-- what comes of a file: all of it is read before its commands are looked at
unfoldable pub midi_outcomes : Option ℕ → List ℕ → List Outcome
midi_outcomes blocks bytes =
    unless_refused (first_fault (file_outcomes bytes)) (timed_plan blocks (division_of bytes) (in_order (acts_in (file_outcomes bytes))))
