-- What a command says, in whatever boxes its voice or cartridge lies, and which commands are in range.
use Rattle.std.specs.Prelude.{ℕ, ◌≡◌, ◌≤◌, ◌⊎◌, List}
use Rattle.voice_record.specs.Voice.{IsVoice, greatest_value}
use Rattle.cartridge.specs.Cartridge.{IsCartridge}
use Rattle.command_set.specs.declared.command.TheConstants.{MODULATION_WHEEL, HOLD_PEDAL, ALL_NOTES_OFF}
use Rattle.voice_record.specs.declared.parameter.TheConstants.{OPERATOR_SWITCH}
use Rattle.command_set.specs.declared.command.Command.{Command}
use Rattle.command_set.specs.declared.command.Command.TheVariants.{NoteOn, NoteOff, Bend, Control, Program, Param, Store, Voice, Cartridge}

-- a command as plain data: a voice is its 155 numbers, and a cartridge its 32 voices
pub data CommandData : Type 0 where
  StartsNote : ℕ → ℕ → ℕ → CommandData
  EndsNote : ℕ → ℕ → CommandData
  Bends : ℕ → ℕ → CommandData
  Controls : ℕ → ℕ → ℕ → CommandData
  PicksProgram : ℕ → ℕ → CommandData
  SetsParameter : ℕ → ℕ → CommandData
  StoresVoice : ℕ → CommandData
  LoadsVoice : List ℕ → CommandData
  LoadsCartridge : List (List ℕ) → CommandData

abbrev pub content : Command → CommandData
content (NoteOn channel key velocity) = StartsNote channel key velocity
content (NoteOff channel key) = EndsNote channel key
content (Bend channel value) = Bends channel value
content (Control channel number value) = Controls channel number value
content (Program channel number) = PicksProgram channel number
content (Param number value) = SetsParameter number value
content (Store slot) = StoresVoice slot
content (Voice boxed) = LoadsVoice boxed.value
content (Cartridge boxed) = LoadsCartridge boxed.value

-- the controls that act: modulation wheel, hold pedal, all notes off
abbrev pub IsKnownControl : ℕ → Type 0
IsKnownControl number = (number ≡ MODULATION_WHEEL) ⊎ ((number ≡ HOLD_PEDAL) ⊎ (number ≡ ALL_NOTES_OFF))

-- sixteen channels, 128 keys, velocities from 1, bends of 14 bits, parameters at most their greatest value, 32 slots
abbrev pub IsInRange : CommandData → Type 0
IsInRange (StartsNote channel key velocity) = (channel ≤ 15) × (key ≤ 127) × (1 ≤ velocity) × (velocity ≤ 127)
IsInRange (EndsNote channel key) = (channel ≤ 15) × (key ≤ 127)
IsInRange (Bends channel value) = (channel ≤ 15) × (value ≤ 16383)
IsInRange (Controls channel number value) = (channel ≤ 15) × IsKnownControl number × (value ≤ 127)
IsInRange (PicksProgram channel number) = (channel ≤ 15) × (number ≤ 127)
IsInRange (SetsParameter number value) = (number ≤ OPERATOR_SWITCH) × (value ≤ greatest_value number)
IsInRange (StoresVoice slot) = slot ≤ 31
IsInRange (LoadsVoice fields) = IsVoice fields
IsInRange (LoadsCartridge voices) = IsCartridge voices
