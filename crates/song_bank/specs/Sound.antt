-- What holds of each message that a stream gives.
use Rattle.std.specs.Prelude.{◌≡◌, ◌<◌, ℕ, List, [], ◌∷◌, ◌++◌, length}
use Rattle.midi_stream.specs.declared.message.MidiMessage.{MidiMessage}
use Rattle.midi_stream.specs.declared.message.MidiMessage.TheVariants.{NoteOff, NoteOn, KeyPressure, Control, Program, ChannelPressure}
use Rattle.midi_stream.specs.declared.message.MidiMessage.TheVariants.{Bend, SysEx, SysExTooLong}
use Rattle.midi_stream.specs.Ranges.{InRange}
use Rattle.midi_stream.specs.Ended.{EndedMessage}

-- data bytes
abbrev pub AreData : List ℕ → Type 0
AreData [] = Unit {0}
AreData (byte ∷ bytes) = (byte < 128) × AreData bytes

-- a SysEx message of so many bytes: F0, data bytes, and F7
pub record IsFramed (count : ℕ) (bytes : List ℕ) : Type 0 where
  pub held : List ℕ
  pub frame : bytes ≡ 240 ∷ held ++ 247 ∷ []
  pub so_many : length bytes ≡ count
  pub are_data : AreData held

-- the bytes of a SysEx message are whole
abbrev pub IsWhole : MidiMessage → List ℕ → Type 0
IsWhole (NoteOff channel key) bytes = Unit {0}
IsWhole (NoteOn channel key velocity) bytes = Unit {0}
IsWhole (KeyPressure channel key value) bytes = Unit {0}
IsWhole (Control channel number value) bytes = Unit {0}
IsWhole (Program channel number) bytes = Unit {0}
IsWhole (ChannelPressure channel value) bytes = Unit {0}
IsWhole (Bend channel value) bytes = Unit {0}
IsWhole (SysEx count) bytes = IsFramed count bytes
IsWhole (SysExTooLong count) bytes = Unit {0}

-- each message is in range, and its bytes are whole
abbrev pub AreSound : List EndedMessage → Type 0
AreSound [] = Unit {0}
AreSound (e ∷ es) = (InRange e.message × IsWhole e.message e.bytes) × AreSound es
