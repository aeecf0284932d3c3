-- The events of a track, and what happens at their ticks.
use Rattle.std.specs.Prelude.{ℕ, zero, suc, ◌+◌, ◌-◌, Bool, true, false, List, [], ◌∷◌, ◌++◌, length, Option, Some, None, if◌then◌else◌}
use Rattle.velocity_map.specs.declared.curve.Curve.TheVariants.{Linear}
use Rattle.command_set.specs.Command.{CommandData}
use Rattle.command_set.specs.Message.{MessageOutcome, Yields, PassedOver, Overlong, Faulty, command_of}
use Rattle.script_outcome.specs.declared.fault.ScriptKind.{ScriptKind}
use Rattle.script_outcome.specs.declared.fault.ScriptKind.TheVariants as kind
use Rattle.midi_stream.specs.Ended.{EndedMessage, ended_message}
use Rattle.midi_file.specs.Event.{KindData, ChannelMessage, Feeds, SetsTempo, EndsTrack, Nothing, EventData, EventRead, Event, Broken, event_at}

-- ---- events with their places

-- an event at the place of its first byte, or what is wrong there
pub data Found : Type 0 where
  Stands : ℕ → EventData → Found
  RefusedAt : ℕ → ScriptKind → Found

abbrev pub ends_track : KindData → Bool
ends_track (ChannelMessage message) = false
ends_track (Feeds bytes) = false
ends_track (SetsTempo tempo) = false
ends_track EndsTrack = true
ends_track Nothing = false

-- what was read at a place, and the events after it: none after the track's end and after a fault
abbrev pub found_at : ℕ → (ℕ → List ℕ → List Found) → EventRead → List Found
found_at place later (Event e) = Stands place e ∷ (if ends_track e.kind then [] else later e.running e.rest)
found_at place later (Broken why) = RefusedAt place why ∷ []

-- The events in the last bytes of a track whose end is at a place, by the running status before them, at most so many. The bytes are as
-- many as there can be events, since each has a byte at least.
unfoldable pub events_in : ℕ → ℕ → ℕ → List ℕ → List Found
events_in zero end running rest = []
events_in (suc more) end running [] = []
events_in (suc more) end running (byte ∷ rest) = found_at (end - length (byte ∷ rest)) (events_in more end) (event_at running (byte ∷ rest))

-- the events of a track
abbrev pub track_events : ℕ → List ℕ → List Found
track_events end bytes = events_in (length bytes) end 0 bytes

-- ---- what happens

-- at a tick a tempo is set or a command is played
pub data ActData : Type 0 where
  Sets : ℕ → ActData
  Plays : CommandData → ActData

-- an act at its tick, with the place of its event
pub record TimedData : Type 0 where
  pub tick : ℕ
  pub place : ℕ
  pub act : ActData

abbrev pub timed_at : ℕ → ℕ → ActData → TimedData
timed_at tick place act = record { tick = tick; place = place; act = act }

-- an act, or what is wrong with an event at its place
pub data TrackOutcome : Type 0 where
  Comes : TimedData → TrackOutcome
  Breaks : ℕ → ScriptKind → TrackOutcome

-- what happens by a message at an event
abbrev pub message_outcomes : ℕ → ℕ → MessageOutcome → List TrackOutcome
message_outcomes tick place (Yields command) = Comes (timed_at tick place (Plays command)) ∷ []
message_outcomes tick place PassedOver = []
message_outcomes tick place (Overlong count) = Breaks place kind.Long ∷ []
message_outcomes tick place (Faulty fault) = Breaks place (kind.Message fault) ∷ []

abbrev pub ended_outcomes : ℕ → ℕ → Option EndedMessage → List TrackOutcome
ended_outcomes tick place None = []
ended_outcomes tick place (Some ended) = message_outcomes tick place (command_of ended.message ended.bytes Linear)

-- what happens by an event's bytes, fed to the track's own reader after those of earlier events
unfoldable pub bytes_outcomes : ℕ → ℕ → List ℕ → List ℕ → List TrackOutcome
bytes_outcomes tick place before [] = []
bytes_outcomes tick place before (byte ∷ bytes) =
    ended_outcomes tick place (ended_message before byte) ++ bytes_outcomes tick place (before ++ byte ∷ []) bytes

-- the bytes that an event feeds to the track's own reader
abbrev pub fed_by : KindData → List ℕ
fed_by (ChannelMessage message) = []
fed_by (Feeds bytes) = bytes
fed_by (SetsTempo tempo) = []
fed_by EndsTrack = []
fed_by Nothing = []

-- what happens by an event, after the bytes that its track fed before
abbrev pub event_outcomes : ℕ → ℕ → List ℕ → KindData → List TrackOutcome
event_outcomes tick place before (ChannelMessage message) = message_outcomes tick place (command_of message [] Linear)
event_outcomes tick place before (Feeds bytes) = bytes_outcomes tick place before bytes
event_outcomes tick place before (SetsTempo tempo) = Comes (timed_at tick place (Sets tempo)) ∷ []
event_outcomes tick place before EndsTrack = []
event_outcomes tick place before Nothing = []

-- What happens by the events of a track, after so many ticks and the bytes fed so far. A message that isn't ended at the track's end is dropped.
unfoldable pub events_outcomes : ℕ → List ℕ → List Found → List TrackOutcome
events_outcomes tick fed [] = []
events_outcomes tick fed (Stands place e ∷ later) =
    event_outcomes (tick + e.delta) place fed e.kind ++ events_outcomes (tick + e.delta) (fed ++ fed_by e.kind) later
events_outcomes tick fed (RefusedAt place why ∷ later) = Breaks place why ∷ []

-- what happens in a track whose end is at a place
abbrev pub track_outcomes : ℕ → List ℕ → List TrackOutcome
track_outcomes end bytes = events_outcomes 0 [] (track_events end bytes)
