-- A message as an event of a track of a MIDI file, at no ticks after the event before it.
use Rattle.std.specs.Prelude.{ℕ, ◌+◌, ◌-◌, ◌%◌, ◌/◌, nat_lt, List, [], ◌∷◌, ◌++◌, length, drop, if◌then◌else◌}
use Rattle.midi_stream.specs.declared.message.MidiMessage.{MidiMessage}
use Rattle.midi_stream.specs.declared.message.MidiMessage.TheVariants.{NoteOff, NoteOn, KeyPressure, Control, Program, ChannelPressure}
use Rattle.midi_stream.specs.declared.message.MidiMessage.TheVariants.{Bend, SysEx, SysExTooLong}
use Rattle.midi_stream.specs.Ended.{EndedMessage}

-- A length below 2^14 as a variable-length quantity: its 7 bits in one byte, or 7 bits in each of two, the higher ones first and with
-- the high bit set.
unfoldable pub quantity_bytes : ℕ → List ℕ
quantity_bytes count = if nat_lt count 128 then count ∷ [] else (128 + count / 128) ∷ count % 128 ∷ []

-- a channel event: its delta time, its status with the channel, and its data bytes
abbrev pub one_byte_event : ℕ → ℕ → ℕ → List ℕ
one_byte_event status channel first = 0 ∷ (status + channel) ∷ first ∷ []

abbrev pub two_byte_event : ℕ → ℕ → ℕ → ℕ → List ℕ
two_byte_event status channel first second = 0 ∷ (status + channel) ∷ first ∷ second ∷ []

-- a SysEx event: its delta time, the byte F0, how many bytes of the message follow, and these
unfoldable pub sysex_event : List ℕ → List ℕ
sysex_event bytes = 0 ∷ 240 ∷ quantity_bytes (length bytes - 1) ++ drop 1 bytes

-- The event of a message, with the bytes of a SysEx one. The velocity of a note-off, which says nothing to the DX7, is 64, as the standard
-- has it where there is none; a SysEx message whose bytes are not kept has no event.
unfoldable pub message_event : MidiMessage → List ℕ → List ℕ
message_event (NoteOff channel key) bytes = two_byte_event 128 channel key 64
message_event (NoteOn channel key velocity) bytes = two_byte_event 144 channel key velocity
message_event (KeyPressure channel key value) bytes = two_byte_event 160 channel key value
message_event (Control channel number value) bytes = two_byte_event 176 channel number value
message_event (Program channel number) bytes = one_byte_event 192 channel number
message_event (ChannelPressure channel value) bytes = one_byte_event 208 channel value
message_event (Bend channel value) bytes = two_byte_event 224 channel (value % 128) (value / 128)
message_event (SysEx count) bytes = sysex_event bytes
message_event (SysExTooLong count) bytes = []

-- the event of a message that has ended
abbrev pub ended_event : EndedMessage → List ℕ
ended_event ended = message_event ended.message ended.bytes
