-- What a command that edits makes of the voice.
use Rattle.std.specs.Prelude.{ℕ, ◌≡◌, ◌==◌, if◌then◌else◌, List, [], ◌∷◌, slice_set}
use Rattle.voice_record.specs.declared.parameter.TheConstants.{OPERATOR_SWITCH}
use Rattle.command_set.specs.Command.{CommandData, StartsNote, EndsNote, Bends, Controls, PicksProgram, SetsParameter, StoresVoice}
use Rattle.command_set.specs.Command.{LoadsVoice, LoadsCartridge}

-- The voice after a command that sets a parameter of it or replaces it whole. Number 155 is the operator switch, which is no parameter of the voice.
-- Of the other commands only a program changes the voice, and it copies it from the cartridge.
abbrev pub voice_after : List ℕ → CommandData → List ℕ
voice_after voice (StartsNote channel key velocity) = voice
voice_after voice (EndsNote channel key) = voice
voice_after voice (Bends channel value) = voice
voice_after voice (Controls channel number value) = voice
voice_after voice (PicksProgram channel number) = voice
voice_after voice (SetsParameter number value) = if number == OPERATOR_SWITCH then voice else slice_set voice number value
voice_after voice (StoresVoice slot) = voice
voice_after voice (LoadsVoice other) = other
voice_after voice (LoadsCartridge voices) = voice

-- the commands that edit: those that set a parameter, or load another voice
abbrev pub IsEdit : CommandData → Type 0
IsEdit (StartsNote channel key velocity) = ⊥
IsEdit (EndsNote channel key) = ⊥
IsEdit (Bends channel value) = ⊥
IsEdit (Controls channel number value) = ⊥
IsEdit (PicksProgram channel number) = ⊥
IsEdit (SetsParameter number value) = Unit {0}
IsEdit (StoresVoice slot) = ⊥
IsEdit (LoadsVoice other) = Unit {0}
IsEdit (LoadsCartridge voices) = ⊥

-- the command edits, and turns the old voice into the new one
pub record Turns (old : List ℕ) (command : CommandData) (new : List ℕ) : Type 0 where
  pub edit : IsEdit command
  pub voice : voice_after old command ≡ new

-- one command after the other
abbrev pub TurnsAll : List ℕ → List CommandData → List ℕ → Type 0
TurnsAll old [] new = old ≡ new
TurnsAll old (c ∷ cs) new = (between : List ℕ) × (Turns old c between × TurnsAll between cs new)
