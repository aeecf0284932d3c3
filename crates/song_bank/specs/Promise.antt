-- What a song with a first track comes to: the commands of the track's streams at block 0, and then the song's.
use Rattle.std.specs.Prelude.{ℕ, ◌≡◌, ◌+◌, ◌<◌, ◌≤◌, List, [], ◌∷◌, ◌++◌, length, None}
use Rattle.std.specs.List.{flat_map}
use Rattle.script_plan.specs.Plan.{PlannedData}
use Rattle.script_outcome.specs.Plan.{Commands, given}
use Rattle.script_outcome.specs.ReaderAnswer.{all_given}
use Rattle.script_read.specs.Outcomes.{stream_outcomes}
use Rattle.script_read.specs.Plan.{plan}
use Rattle.song_bank.specs.Messages.{ended_messages}
use Rattle.song_bank.specs.Sound.{AreSound}

-- the commands of a stream
abbrev pub commands_in : List ℕ → List PlannedData
commands_in stream = given (stream_outcomes stream)

-- the commands of some streams, one stream after the other
abbrev pub bank_commands : List (List ℕ) → List PlannedData
bank_commands streams = flat_map commands_in streams

-- all that comes of each stream is commands: none has a fault
abbrev pub AreFaultless : List (List ℕ) → Type 0
AreFaultless [] = Unit {0}
AreFaultless (stream ∷ streams) = (stream_outcomes stream ≡ all_given (commands_in stream)) × AreFaultless streams

-- each message of each stream is in range, and its bytes are whole
abbrev pub AreSoundStreams : List (List ℕ) → Type 0
AreSoundStreams [] = Unit {0}
AreSoundStreams (stream ∷ streams) = AreSound (ended_messages stream) × AreSoundStreams streams

-- Where the song has a plan, so has the other file: the commands of the bank, and then the song's.
abbrev pub Leads : List PlannedData → List ℕ → List ℕ → Type 0
Leads bank song out = (room : ℕ) (later : List PlannedData) → plan song None room ≡ Commands later
    → length bank + length later ≤ room → plan out None room ≡ Commands (bank ++ later)
