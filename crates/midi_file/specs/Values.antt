-- What the values of the code say of a MIDI file.
use Rattle.std.specs.Prelude.{◌∷◌}
use Rattle.midi_stream.specs.Ranges.{InRange}
use Rattle.command_set.specs.Command.{IsInRange, content}
use Rattle.midi_file.specs.declared.event.EventKind.{EventKind}
use Rattle.midi_file.specs.declared.event.EventKind.TheVariants as kind
use Rattle.midi_file.specs.declared.event.MidiEvent.{MidiEvent}
use Rattle.midi_file.specs.declared.timed.Act.{Act}
use Rattle.midi_file.specs.declared.timed.Act.TheVariants as act
use Rattle.midi_file.specs.Event.{KindData, ChannelMessage, Feeds, SetsTempo, EndsTrack, Nothing, EventData, event_of}
use Rattle.midi_file.specs.Track.{ActData, Sets, Plays}

-- what an event does
abbrev pub kind_data : EventKind → KindData
kind_data (kind.Message message) = ChannelMessage message
kind_data (kind.Exclusive bytes) = Feeds (240 ∷ bytes.now)
kind_data (kind.Continued bytes) = Feeds bytes.now
kind_data (kind.Tempo tempo) = SetsTempo tempo
kind_data kind.End = EndsTrack
kind_data kind.Other = Nothing

-- its message is in range
abbrev pub IsSoundKind : EventKind → Type 0
IsSoundKind (kind.Message message) = InRange message
IsSoundKind (kind.Exclusive bytes) = Unit {0}
IsSoundKind (kind.Continued bytes) = Unit {0}
IsSoundKind (kind.Tempo tempo) = Unit {0}
IsSoundKind kind.End = Unit {0}
IsSoundKind kind.Other = Unit {0}

abbrev pub event_data : MidiEvent → EventData
event_data e = event_of e.delta (kind_data e.kind) e.running e.rest.now

-- what happens at a tick
abbrev pub act_data : Act → ActData
act_data (act.Tempo tempo) = Sets tempo
act_data (act.Command command) = Plays (content command)

-- its command is in range
abbrev pub IsSoundAct : ActData → Type 0
IsSoundAct (Sets tempo) = Unit {0}
IsSoundAct (Plays command) = IsInRange command
