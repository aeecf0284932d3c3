-- An instrument that carries out only commands that edit has the voice that they make.
use Rattle.std.proofs.Common.{ℕ, ◌≡◌, List, [], ◌∷◌, true, false, refl, ◌∙◌, cond}
use Rattle.std.specs.Prelude.{◌==◌, Bool}
use Rattle.command_set.specs.Command.{CommandData, StartsNote, EndsNote, Bends, Controls, PicksProgram, SetsParameter, StoresVoice, LoadsVoice, LoadsCartridge}
use Rattle.command_set.specs.VoiceAfter.{voice_after, IsEdit, TurnsAll}
use Rattle.instrument.specs.State.{State, apply, passed}
use Rattle.instrument.specs.Journal.{applied}

with_parameter_voice : (b : Bool) (s : State) (value : ℕ) (voice : List ℕ)
    → (cond b (record s { switch = value }) (record s { voice = voice })).voice ≡ cond b s.voice voice
with_parameter_voice true s value voice = refl
with_parameter_voice false s value voice = refl

-- what a command that edits does to the voice of an instrument
pub apply_voice : (s : State) (c : CommandData) → IsEdit c → (apply s c).voice ≡ voice_after s.voice c
unfolding apply
apply_voice s (StartsNote channel key velocity) e = absurd e
apply_voice s (EndsNote channel key) e = absurd e
apply_voice s (Bends channel value) e = absurd e
apply_voice s (Controls channel number value) e = absurd e
apply_voice s (PicksProgram channel number) e = absurd e
apply_voice s (SetsParameter number value) e = with_parameter_voice (number == 155) s value _
apply_voice s (StoresVoice slot) e = absurd e
apply_voice s (LoadsVoice voice) e = refl
apply_voice s (LoadsCartridge voices) e = absurd e

-- an instrument that began with the voice of an editor and carried out only its commands has the voice of the editor
pub applied_voice : (s : State) (cs : List CommandData) (new : List ℕ) → TurnsAll s.voice cs new → (applied s cs).voice ≡ new
applied_voice s [] new h = h
applied_voice s (c ∷ cs) new h =
    let here : (apply s c).voice ≡ h.0 = apply_voice s c h.1.0.edit ∙ h.1.0.voice in
    applied_voice (apply s c) cs new (rw here h.1.1)

-- a block leaves the voice
pub passed_voice : (s : State) → (passed s).voice ≡ s.voice
unfolding passed
passed_voice s = refl
