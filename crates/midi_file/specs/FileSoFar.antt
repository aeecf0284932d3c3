-- For private functions and proofs: what a reader of a MIDI file tells of what happens in it.
use Rattle.std.specs.Prelude.{◌≡◌, List, [], ◌∷◌, ◌++◌, map}
use Rattle.script_outcome.specs.declared.fault.ScriptFault.{ScriptFault}
use Rattle.script_outcome.specs.declared.fault.ScriptFault.TheVariants as faults
use Rattle.script_outcome.specs.Outcomes.{Fails}
use Rattle.midi_file.specs.Track.{TimedData, TrackOutcome, Comes}
use Rattle.midi_file.specs.File.{first_fault}

-- acts alone
abbrev pub all_come : List TimedData → List TrackOutcome
all_come events = map Comes events

-- whatever happens after these, this is the first fault; want of memory says nothing
abbrev pub Faults : ScriptFault → List TrackOutcome → Type 0
Faults (faults.Refused at why) outcomes = (more : List TrackOutcome) → first_fault (outcomes ++ more) ≡ Fails at why ∷ []
Faults faults.TooMany outcomes = ⊥
Faults faults.Memory outcomes = Unit {0}
