-- What a message of a MIDI stream tells the instrument.
use Rattle.std.specs.Prelude.{ℕ, ◌≡◌, ◌%◌, ◌≤◌, ◌==◌, ◌||◌, Bool, min, map, length, List, slice_index, Option, Some, None, if◌then◌else◌}
use Rattle.std.specs.List.{range_with_len}
use Rattle.voice_record.specs.Voice.{greatest_value}
use Rattle.cartridge.specs.Cartridge.{voices_of}
use Rattle.sysex_frame.specs.Frame.{Content, VoiceDump, CartridgeDump, ParamChange, OtherChange, DumpRequest}
use Rattle.sysex_frame.specs.FrameFault.{first_fault, is_foreign}
use Rattle.sysex_frame.specs.ParsedFrame.{reading}
use Rattle.sysex_frame.specs.declared.frame.FrameFault.{FrameFault}
use Rattle.midi_stream.specs.declared.message.MidiMessage.{MidiMessage}
use Rattle.midi_stream.specs.declared.message.MidiMessage.TheVariants.{NoteOff, NoteOn, KeyPressure, Control, Program, ChannelPressure}
use Rattle.midi_stream.specs.declared.message.MidiMessage.TheVariants.{Bend, SysEx, SysExTooLong}
use Rattle.velocity_map.specs.declared.curve.Curve.{Curve}
use Rattle.command_set.specs.declared.command.TheConstants.{MODULATION_WHEEL, HOLD_PEDAL, ALL_NOTES_OFF}
use Rattle.voice_record.specs.declared.parameter.TheConstants.{OPERATOR_SWITCH}
use Rattle.velocity_map.specs.Curve.{curve_value}
use Rattle.command_set.specs.Command.{CommandData, StartsNote, EndsNote, Bends, Controls, PicksProgram, SetsParameter, LoadsVoice, LoadsCartridge}
use Rattle.command_set.specs.declared.message.CommandFault.{CommandFault}
use Rattle.command_set.specs.declared.message.CommandFault.TheVariants as faults

-- the outcome of a message: a command; or nothing, it is passed over; or it is a SysEx one of more than 5000 bytes, by their
-- count, or with this fault
pub data MessageOutcome : Type 0 where
  Yields : CommandData → MessageOutcome
  PassedOver : MessageOutcome
  Overlong : ℕ → MessageOutcome
  Faulty : FrameFault → MessageOutcome

-- the controls that act: modulation wheel, hold pedal, all notes off
abbrev pub acts : ℕ → Bool
acts number = number == MODULATION_WHEEL || (number == HOLD_PEDAL || number == ALL_NOTES_OFF)

-- each parameter of a voice is the lesser of its byte modulo 128 and its greatest value
unfoldable pub clamped_voice : List ℕ → List ℕ
clamped_voice bytes = map (λ number. min (slice_index bytes number % 128) (greatest_value number)) (range_with_len 0 155)

-- the outcome of a message of the DX7 by what it holds
abbrev pub content_outcome : Content → MessageOutcome
content_outcome (VoiceDump device payload) = Yields (LoadsVoice (clamped_voice payload))
content_outcome (CartridgeDump device payload) = Yields (LoadsCartridge (voices_of payload))
content_outcome (ParamChange device number value) = Yields (SetsParameter number value)
content_outcome (OtherChange device group number) = PassedOver
content_outcome (DumpRequest device) = PassedOver

-- what holds of the parts of a message that was read: its bytes are as many as its kind has, and a value is one that its parameter can have
abbrev pub IsSound : Content → Type 0
IsSound (VoiceDump device payload) = length payload ≡ 155
IsSound (CartridgeDump device payload) = length payload ≡ 4096
IsSound (ParamChange device number value) = (number ≤ OPERATOR_SWITCH) × (value ≤ greatest_value number)
IsSound (OtherChange device group number) = Unit {0}
IsSound (DumpRequest device) = Unit {0}

-- a message that is none of the DX7's is passed over, and every other fault refuses it
abbrev pub fault_outcome : FrameFault → MessageOutcome
fault_outcome fault = if is_foreign fault then PassedOver else Faulty fault

-- the outcome of SysEx bytes by their first fault, and by what they hold where they have none
abbrev pub frame_outcome : Option FrameFault → Content → MessageOutcome
frame_outcome None held = content_outcome held
frame_outcome (Some fault) held = fault_outcome fault

-- the outcome of a message, with the bytes of a SysEx one: the velocity of a note-on goes through the curve
unfoldable pub command_of : MidiMessage → List ℕ → Curve → MessageOutcome
command_of (NoteOff channel key) bytes curve = Yields (EndsNote channel key)
command_of (NoteOn channel key velocity) bytes curve = Yields (StartsNote channel key (curve_value curve velocity))
command_of (KeyPressure channel key value) bytes curve = PassedOver
command_of (Control channel number value) bytes curve = if acts number then Yields (Controls channel number value) else PassedOver
command_of (Program channel number) bytes curve = Yields (PicksProgram channel number)
command_of (ChannelPressure channel value) bytes curve = PassedOver
command_of (Bend channel value) bytes curve = Yields (Bends channel value)
command_of (SysEx count) bytes curve = frame_outcome (first_fault bytes) (reading bytes)
command_of (SysExTooLong count) bytes curve = Overlong count

-- an answer that is no refusal, as the outcome of its message
abbrev pub answer_outcome : Option CommandData → MessageOutcome
answer_outcome None = PassedOver
answer_outcome (Some command) = Yields command

-- the outcome of a message that is refused so; want of memory says nothing of it
abbrev pub IsRefusal : CommandFault → MessageOutcome → Type 0
IsRefusal (faults.TooLong count) said = said ≡ Overlong count
IsRefusal (faults.Frame fault) said = said ≡ Faulty fault
IsRefusal faults.Memory said = Unit {0}
