-- The ranges of the fields of messages.
use Rattle.std.specs.Prelude.{◌<◌, ◌≤◌}
use Rattle.midi_stream.specs.declared.message.MidiMessage.{MidiMessage}
use Rattle.midi_stream.specs.declared.message.MidiMessage.TheVariants.{NoteOff, NoteOn, KeyPressure, Control, Program, ChannelPressure}
use Rattle.midi_stream.specs.declared.message.MidiMessage.TheVariants.{Bend, SysEx, SysExTooLong}

-- channels to 15, bends to 16383, other values to 127; a note-on has a velocity, and kept bytes are 2 to 5000
abbrev pub InRange : MidiMessage → Type 0
InRange (NoteOff channel key) = (channel ≤ 15) × (key ≤ 127)
InRange (NoteOn channel key velocity) = (channel ≤ 15) × (key ≤ 127) × (1 ≤ velocity) × (velocity ≤ 127)
InRange (KeyPressure channel key value) = (channel ≤ 15) × (key ≤ 127) × (value ≤ 127)
InRange (Control channel number value) = (channel ≤ 15) × (number ≤ 127) × (value ≤ 127)
InRange (Program channel number) = (channel ≤ 15) × (number ≤ 127)
InRange (ChannelPressure channel value) = (channel ≤ 15) × (value ≤ 127)
InRange (Bend channel value) = (channel ≤ 15) × (value ≤ 16383)
InRange (SysEx length) = length ≤ 5000
InRange (SysExTooLong length) = 5000 < length
