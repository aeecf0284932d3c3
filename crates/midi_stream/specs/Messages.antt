-- The messages of a stream of MIDI bytes, and what of it is not a whole message yet.
use Rattle.std.specs.Prelude.{ℕ, ◌+◌, ◌-◌, ◌*◌, ◌%◌, ◌^◌, ◌==◌, min, nat_lt, nat_le, Bool, true, false, not, ◌&&◌, ◌||◌, if◌then◌else◌}
use Rattle.std.specs.Prelude.{List, [], ◌∷◌, ◌++◌, length, map, Option, Some, None}
use Rattle.midi_stream.specs.declared.message.MidiMessage.{MidiMessage}
use Rattle.midi_stream.specs.declared.message.MidiMessage.TheVariants.{NoteOff, NoteOn, KeyPressure, Control, Program, ChannelPressure}
use Rattle.midi_stream.specs.declared.message.MidiMessage.TheVariants.{Bend, SysEx, SysExTooLong}
use Rattle.midi_stream.specs.Segments.{clean, Segment, segments, last_segment}

-- a channel message with one data byte
unfoldable pub message_of_one : ℕ → ℕ → MidiMessage
message_of_one status value = if nat_lt status 208 then Program (status % 16) value else ChannelPressure (status % 16) value

-- a channel message with two data bytes; a note-on with velocity 0 is a note-off
unfoldable pub message_of_two : ℕ → ℕ → ℕ → MidiMessage
message_of_two status first second =
    if nat_lt status 144 then NoteOff (status % 16) first
    else if nat_lt status 160 then (if second == 0 then NoteOff (status % 16) first else NoteOn (status % 16) first second)
    else if nat_lt status 176 then KeyPressure (status % 16) first second
    else if nat_lt status 192 then Control (status % 16) first second
    else Bend (status % 16) (first + 128 * second)

-- whether messages with this channel status have one data byte, and not two
abbrev pub has_one_data_byte : ℕ → Bool
has_one_data_byte status = nat_le 192 status && nat_lt status 224

-- one message for each two data bytes
abbrev pub by_twos : ℕ → List ℕ → List MidiMessage
by_twos status [] = []
by_twos status (first ∷ []) = []
by_twos status (first ∷ second ∷ later) = message_of_two status first second ∷ by_twos status later

-- what is left after the last two data bytes that belong together
abbrev pub after_twos : List ℕ → List ℕ
after_twos [] = []
after_twos (first ∷ []) = first ∷ []
after_twos (first ∷ second ∷ later) = after_twos later

-- the messages of a channel status: as many as its data bytes fill
abbrev pub channel_messages : ℕ → List ℕ → List MidiMessage
channel_messages status bytes = if has_one_data_byte status then map (message_of_one status) bytes else by_twos status bytes

-- the data bytes after the last whole message of a channel status
abbrev pub unused_data : ℕ → List ℕ → List ℕ
unused_data status bytes = if has_one_data_byte status then [] else after_twos bytes

-- a SysEx message by the count of its bytes; above 5000 they are not kept
abbrev pub sysex_message : ℕ → MidiMessage
sysex_message count = if nat_le count 5000 then SysEx count else SysExTooLong (min count (2 ^ 32 - 1))

-- the messages of a segment, by the status of the next one, 0 where there is none: SysEx,
-- status 240, gives a message exactly where 247 ends it, and other system statuses give none
abbrev pub segment_messages : Segment → ℕ → List MidiMessage
segment_messages segment next =
    if nat_lt segment.status 240 then channel_messages segment.status segment.data_bytes
    else (if segment.status == 240 && next == 247 then sysex_message (length segment.data_bytes + 2) ∷ [] else [])

abbrev pub first_status : List Segment → ℕ
first_status [] = 0
first_status (segment ∷ later) = segment.status

abbrev pub messages_of : List Segment → List MidiMessage
messages_of [] = []
messages_of (segment ∷ later) = segment_messages segment (first_status later) ++ messages_of later

-- the messages of a stream, in order
unfoldable pub messages : List ℕ → List MidiMessage
messages stream = messages_of (segments (clean stream))

abbrev pub is_empty : List ℕ → Bool
is_empty [] = true
is_empty (byte ∷ bytes) = false

-- whether a segment ends within a message: a SysEx one, or a channel status that has no data
-- byte, or data bytes that fill no message
abbrev pub is_open : Segment → Bool
is_open segment =
    segment.status == 240
    || (nat_le 128 segment.status
    && (nat_lt segment.status 240
    && (is_empty segment.data_bytes || not (is_empty (unused_data segment.status segment.data_bytes)))))

-- whether the stream ends within a message
unfoldable pub is_unfinished : List ℕ → Bool
is_unfinished stream = is_open (last_segment (segments (clean stream)))

-- the bytes of the SysEx message of a segment, where the next segment ends it
abbrev pub ended_by : Segment → Segment → Option (List ℕ)
ended_by segment next =
    if segment.status == 240 && next.status == 247 then Some (240 ∷ segment.data_bytes ++ 247 ∷ []) else None

abbrev pub sysex_at_end : List Segment → Option (List ℕ)
sysex_at_end [] = None
sysex_at_end (segment ∷ []) = None
sysex_at_end (segment ∷ next ∷ []) = ended_by segment next
sysex_at_end (segment ∷ next ∷ third ∷ later) = sysex_at_end (next ∷ third ∷ later)

-- the bytes of the SysEx message that the last status byte of the stream ended, if it ended one
unfoldable pub last_sysex : List ℕ → Option (List ℕ)
last_sysex stream = sysex_at_end (segments (clean stream))
