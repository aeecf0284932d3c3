-- The bytes that a reader of a stream keeps of a message tell the same command as those of the stream.
use Rattle.std.proofs.Common.{◌≡◌, ℕ, ◌≤◌, List, [], length, refl, ap, arith}
use Rattle.std.specs.Prelude.{Option, Some, None, unwrap_or, IfSome}
use Rattle.midi_stream.specs.declared.message.MidiMessage.{MidiMessage}
use Rattle.midi_stream.specs.declared.message.MidiMessage.TheVariants.{NoteOff, NoteOn, KeyPressure, Control, Program, ChannelPressure, Bend, SysEx}
use Rattle.midi_stream.specs.declared.message.MidiMessage.TheVariants.{SysExTooLong}
use Rattle.midi_stream.specs.Ranges.{InRange}
use Rattle.midi_stream.specs.Standing.{HasBytes}
use Rattle.velocity_map.specs.declared.curve.Curve.{Curve}
use Rattle.command_set.specs.Message.{command_of}

pub told_same : (m : MidiMessage) (kept : Option (List ℕ)) (sysex : List ℕ) (curve : Curve) → InRange m → HasBytes m kept
    → IfSome kept (λ text. length text ≤ 5000 → sysex ≡ text) → command_of m sysex curve ≡ command_of m (unwrap_or kept []) curve
unfolding command_of
told_same (NoteOff channel key) kept sysex curve range has same = refl
told_same (NoteOn channel key velocity) kept sysex curve range has same = refl
told_same (KeyPressure channel key value) kept sysex curve range has same = refl
told_same (Control channel number value) kept sysex curve range has same = refl
told_same (Program channel number) kept sysex curve range has same = refl
told_same (ChannelPressure channel value) kept sysex curve range has same = refl
told_same (Bend channel value) kept sysex curve range has same = refl
told_same (SysEx count) None sysex curve range has same = absurd has
told_same (SysEx count) (Some text) sysex curve range has same = ap (λ (bytes : List ℕ). command_of (SysEx count) bytes curve) (same (omega arith))
told_same (SysExTooLong count) kept sysex curve range has same = refl
