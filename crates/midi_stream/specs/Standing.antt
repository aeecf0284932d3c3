-- How a state in a message, and the bytes that are kept, stand for the segments so far.
use Rattle.std.specs.Prelude.{ℕ, ◌≡◌, ◌≢◌, ◌+◌, ◌-◌, ◌^◌, ◌<◌, ◌≤◌, ◌⊎◌, ◌==◌, min, false, if◌then◌else◌, List, [], ◌∷◌, ◌++◌, length}
use Rattle.std.specs.Prelude.{take, Option, Some, None, IfSome, IsSomeAnd}
use Rattle.midi_stream.specs.declared.message.MidiMessage.{MidiMessage}
use Rattle.midi_stream.specs.declared.message.MidiMessage.TheVariants.{NoteOff, NoteOn, KeyPressure, Control, Program, ChannelPressure}
use Rattle.midi_stream.specs.declared.message.MidiMessage.TheVariants.{Bend, SysEx, SysExTooLong}
use Rattle.midi_stream.specs.declared.state.ParserState.{ParserState}
use Rattle.midi_stream.specs.declared.state.ParserState.TheVariants.{Between, Begun, Running, Half, InSysEx}
use Rattle.midi_stream.specs.Segments.{Segment, last_segment}
use Rattle.midi_stream.specs.Messages.{has_one_data_byte, unused_data, sysex_at_end}

-- no message has begun: the last segment is of a system status, if there is one
pub record IsBetween (kept : List ℕ) (parts : List Segment) : Type 0 where
  pub closed : (parts ≡ []) ⊎ (240 < (last_segment parts).status)
  pub bytes : IfSome (sysex_at_end parts) (λ bytes. length bytes ≤ 5000 → kept ≡ bytes)

-- the last segment is of this channel status
pub record IsChannel (status : ℕ) (segment : Segment) : Type 0 where
  pub same : segment.status ≡ status
  pub low : 128 ≤ status
  pub high : status < 240

-- the last segment is a channel status that has no data byte
pub record IsBareStatus (status : ℕ) (segment : Segment) : Type 0 where
  pub channel : IsChannel status segment
  pub none : segment.data_bytes ≡ []

-- its data bytes fill messages
pub record IsRunning (status : ℕ) (segment : Segment) : Type 0 where
  pub channel : IsChannel status segment
  pub some : segment.data_bytes ≢ []
  pub unused : unused_data status segment.data_bytes ≡ []

-- its last data byte is the first of two
pub record IsHalf (status first : ℕ) (segment : Segment) : Type 0 where
  pub channel : IsChannel status segment
  pub two : has_one_data_byte status ≡ false
  pub unused : unused_data status segment.data_bytes ≡ first ∷ []

-- the last segment is of a SysEx message with so many bytes, of which the first 5000 are kept
pub record IsSysEx (count : ℕ) (kept : List ℕ) (segment : Segment) : Type 0 where
  pub status : segment.status ≡ 240
  pub so_many : count ≡ min (1 + length segment.data_bytes) (2 ^ 32 - 1)
  pub first : kept ≡ take 5000 (240 ∷ segment.data_bytes)

-- a status byte ends no SysEx message
abbrev pub EndsNone : List Segment → ℕ → Type 0
EndsNone parts status = (last_segment parts).status ≡ 240 → status ≢ 247

abbrev pub StandsAt : ParserState → List ℕ → List Segment → Type 0
StandsAt Between kept parts = IsBetween kept parts
StandsAt (Begun status) kept parts = IsBareStatus status (last_segment parts)
StandsAt (Running status) kept parts = IsRunning status (last_segment parts)
StandsAt (Half status first) kept parts = IsHalf status first (last_segment parts)
StandsAt (InSysEx count) kept parts = IsSysEx count kept (last_segment parts)

-- the bytes that are kept when the next byte comes: those of the last SysEx message, up to 5000
abbrev pub kept_in : ParserState → List ℕ → ℕ → List ℕ
kept_in Between kept byte = kept
kept_in (Begun status) kept byte = kept
kept_in (Running status) kept byte = kept
kept_in (Half status first) kept byte = kept
kept_in (InSysEx count) kept byte = take 5000 (kept ++ byte ∷ [])

abbrev pub kept_with : ParserState → List ℕ → ℕ → List ℕ
kept_with state kept byte = if byte == 240 then 240 ∷ [] else kept_in state kept byte

-- what an answer says: none where the messages stay, and else the one that is new at the end
abbrev pub Answers : Option MidiMessage → List MidiMessage → List MidiMessage → Type 0
Answers None before now = now ≡ before
Answers (Some message) before now = now ≡ before ++ message ∷ []

-- what is kept of the message that an answer tells of: a SysEx one has as many bytes as it says
abbrev pub HasBytes : MidiMessage → Option (List ℕ) → Type 0
HasBytes (NoteOff channel key) kept = Unit {0}
HasBytes (NoteOn channel key velocity) kept = Unit {0}
HasBytes (KeyPressure channel key value) kept = Unit {0}
HasBytes (Control channel number value) kept = Unit {0}
HasBytes (Program channel number) kept = Unit {0}
HasBytes (ChannelPressure channel value) kept = Unit {0}
HasBytes (Bend channel value) kept = Unit {0}
HasBytes (SysEx count) kept = IsSomeAnd kept (λ bytes. length bytes ≡ count)
HasBytes (SysExTooLong count) kept = IsSomeAnd kept (λ bytes. min (length bytes) (2 ^ 32 - 1) ≡ count)
