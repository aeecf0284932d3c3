-- The SysEx messages of a file of MIDI bytes, each with the offset where it begins.
use Rattle.std.specs.Prelude.{ℕ, zero, suc, ◌+◌, ◌==◌, nat_lt, Bool, true, false, List, [], ◌++◌, length, take, slice_index}
use Rattle.std.specs.Prelude.{slice_get, Option, Some, None, option_map, option_to_list, if◌then◌else◌}
use Rattle.midi_stream.specs.declared.message.MidiMessage.{MidiMessage}
use Rattle.midi_stream.specs.declared.message.MidiMessage.TheVariants.{NoteOff, NoteOn, KeyPressure, Control, Program}
use Rattle.midi_stream.specs.declared.message.MidiMessage.TheVariants.{ChannelPressure, Bend, SysEx, SysExTooLong}
use Rattle.midi_stream.specs.Messages.{messages, last_sysex}

-- the message that the stream gains with its byte at an offset, none where its messages stay
unfoldable pub message_at : List ℕ → ℕ → Option MidiMessage
message_at bytes offset = slice_get (messages (take (offset + 1) bytes)) (length (messages (take offset bytes)))

-- where the last F0 before an offset stands
unfoldable pub start_before : List ℕ → ℕ → ℕ
start_before bytes zero = 0
start_before bytes (suc offset) = if slice_index bytes offset == 240 then offset else start_before bytes offset

-- a SysEx message: the offset of its F0 among all bytes of the file, and its bytes from F0 to F7
pub record SysExMessage : Type 0 where
  pub offset : ℕ
  pub bytes : List ℕ

-- it has more than 5000 bytes
abbrev pub is_too_long : SysExMessage → Bool
is_too_long sysex = nat_lt 5000 (length sysex.bytes)

-- a message is a SysEx one
abbrev pub is_sysex : MidiMessage → Bool
is_sysex (NoteOff channel key) = false
is_sysex (NoteOn channel key velocity) = false
is_sysex (KeyPressure channel key value) = false
is_sysex (Control channel number value) = false
is_sysex (Program channel number) = false
is_sysex (ChannelPressure channel value) = false
is_sysex (Bend channel value) = false
is_sysex (SysEx count) = true
is_sysex (SysExTooLong count) = true

-- a message with its offset and its bytes, where it is a SysEx one
abbrev pub placed : Option MidiMessage → ℕ → Option (List ℕ) → Option SysExMessage
placed None offset kept = None
placed (Some message) offset kept =
    if is_sysex message then option_map (λ bytes. record { offset = offset; bytes = bytes }) kept else None

-- the SysEx message that ends with the byte at an offset
unfoldable pub sysex_at : List ℕ → ℕ → Option SysExMessage
sysex_at bytes offset = placed (message_at bytes offset) (start_before bytes offset) (last_sysex (take (offset + 1) bytes))

-- those that end before an offset, in order
unfoldable pub sysex_before : List ℕ → ℕ → List SysExMessage
sysex_before bytes zero = []
sysex_before bytes (suc offset) = sysex_before bytes offset ++ option_to_list (sysex_at bytes offset)

-- all SysEx messages of a file, in order
abbrev pub sysex_messages : List ℕ → List SysExMessage
sysex_messages file = sysex_before file (length file)
