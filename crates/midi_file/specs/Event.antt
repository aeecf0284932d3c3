-- An event of a track at the beginning of bytes.
use Rattle.std.specs.Prelude.{ℕ, ◌==◌, ◌&&◌, nat_lt, List, [], ◌∷◌, ◌++◌, length, if◌then◌else◌}
use Rattle.byteorder.specs.Endian.{big_number}
use Rattle.midi_stream.specs.declared.message.MidiMessage.{MidiMessage}
use Rattle.midi_stream.specs.Messages.{message_of_one, message_of_two, has_one_data_byte}
use Rattle.script_outcome.specs.declared.fault.ScriptKind.{ScriptKind}
use Rattle.script_outcome.specs.declared.fault.ScriptKind.TheVariants as kind
use Rattle.midi_file.specs.Bytes.{Parsed, Got, Lacks, counted_bytes, data_byte, quantity}

-- what an event does: a channel message; bytes for the track's own MIDI reader; a tempo, in microseconds for a quarter note; the track's
-- end; or nothing
pub data KindData : Type 0 where
  ChannelMessage : MidiMessage → KindData
  Feeds : List ℕ → KindData
  SetsTempo : ℕ → KindData
  EndsTrack : KindData
  Nothing : KindData

-- an event: its ticks after the one before, what it does, the running status after it, 0 where there is none, and the bytes after it
pub record EventData : Type 0 where
  pub delta : ℕ
  pub kind : KindData
  pub running : ℕ
  pub rest : List ℕ

abbrev pub event_of : ℕ → KindData → ℕ → List ℕ → EventData
event_of delta what running rest = record { delta = delta; kind = what; running = running; rest = rest }

-- an event, or why there is none
pub data EventRead : Type 0 where
  Event : EventData → EventRead
  Broken : ScriptKind → EventRead

-- what is read after a part
abbrev pub after : {X : Type 0} → (X → List ℕ → EventRead) → Parsed X → EventRead
after later (Got part rest) = later part rest
after later (Lacks why) = Broken why

-- a channel event of one data byte, and of two: its status runs on
abbrev pub first_event : ℕ → ℕ → ℕ → List ℕ → EventRead
first_event delta status first rest = Event (event_of delta (ChannelMessage (message_of_one status first)) status rest)

abbrev pub second_event : ℕ → ℕ → ℕ → List ℕ → EventRead
second_event delta status first bytes =
    after (λ second rest. Event (event_of delta (ChannelMessage (message_of_two status first second)) status rest)) (data_byte bytes)

-- a channel event by its status
unfoldable pub channel_event : ℕ → ℕ → List ℕ → EventRead
channel_event delta status bytes =
    after
    (λ first rest. if has_one_data_byte status then first_event delta status first rest else second_event delta status first rest)
    (data_byte bytes)

-- a system exclusive event with the byte that comes before its own: it ends the running status
unfoldable pub exclusive_event : ℕ → List ℕ → List ℕ → EventRead
exclusive_event delta prefix bytes = after (λ fed rest. Event (event_of delta (Feeds (prefix ++ fed)) 0 rest)) (counted_bytes bytes)

-- what a meta event does, by its type and its bytes
abbrev pub meta_kind : ℕ → List ℕ → KindData
meta_kind meta bytes =
    if meta == 81 && length bytes == 3 then SetsTempo (big_number 3 bytes)
    else if meta == 47 then EndsTrack
    else Nothing

-- a meta event: the running status holds over it
unfoldable pub meta_event : ℕ → ℕ → List ℕ → EventRead
meta_event delta running [] = Broken kind.Cut
meta_event delta running (meta ∷ bytes) = after (λ text rest. Event (event_of delta (meta_kind meta text) running rest)) (counted_bytes bytes)

-- an event after its delta time, by its first byte; a data byte there needs a running status
unfoldable pub event_after : ℕ → ℕ → List ℕ → EventRead
event_after running delta [] = Broken kind.Cut
event_after running delta (byte ∷ bytes) =
    if nat_lt byte 128 then (if running == 0 then Broken kind.Event else channel_event delta running (byte ∷ bytes))
    else if nat_lt byte 240 then channel_event delta byte bytes
    else if byte == 240 then exclusive_event delta (240 ∷ []) bytes
    else if byte == 247 then exclusive_event delta [] bytes
    else if byte == 255 then meta_event delta running bytes
    else Broken kind.Event

-- an event, by the running status before it
unfoldable pub event_at : ℕ → List ℕ → EventRead
event_at running bytes = after (event_after running) (quantity bytes)
