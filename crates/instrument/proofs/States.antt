-- What a command does, by what was found or which number it names.
use Rattle.std.proofs.Common.{ℕ, Option, Some, None, true, false, Result, Ok, Err, IsOk, OnOk, List, set, cond, eqb, subst, ◌≤◌, ◌≢◌, ◌≡◌, refl}
use Rattle.std.proofs.lemmas.Bool.{ne_eqb}
use Rattle.voice_record.specs.Voice.{greatest_value}
use Rattle.command_set.specs.Command.{StartsNote, SetsParameter}
use Rattle.block_rates.specs.declared.lfo.Lfo.{Lfo}
use Rattle.block_rates.specs.Lfos.{lfo_settings, assigned, key_pressed}
use Rattle.block_rates.specs.LfoStates.{IsLfo}
use Rattle.note_voice.specs.Note.{begun}
use Rattle.instrument.specs.declared.slot.Slot.{Slot}
use Rattle.instrument.specs.Running.{AreSlots}
use Rattle.instrument.specs.State.{State, free_slot, fresh, occupied, apply}
use Rattle.instrument.specs.declared.slot.Key.TheVariants.{Down}

pub apply_free : (s : State) (channel key velocity f : ℕ) → free_slot s ≡ Some f
    → apply s (StartsNote channel key velocity) ≡ occupied s (fresh s channel key velocity) f
unfolding apply
apply_free s channel key velocity f e = rw e

pub apply_full : (s : State) (channel key velocity : ℕ) → free_slot s ≡ None → apply s (StartsNote channel key velocity) ≡ s
unfolding apply
apply_full s channel key velocity e = rw e

-- a note of the voice whose key goes down
pub fresh_slots : (vs : List Slot) (s : State) (voice : List ℕ) (switch channel key velocity f : ℕ) → voice ≡ s.voice → switch ≡ s.switch
    → AreSlots vs (λ i. cond (eqb i f) (Some (record { channel = channel; note = begun voice switch key velocity; key_state = Down })) (s.slots i))
    → AreSlots vs (λ i. cond (eqb i f) (Some (fresh s channel key velocity)) (s.slots i))
fresh_slots vs s voice switch channel key velocity f vo sw h =
    let P : List ℕ → Type 0 = λ v. AreSlots vs (λ i. cond (eqb i f) (Some
    (record { channel = channel; note = begun v s.switch key velocity; key_state = Down })) (s.slots i)) in
    let Q : ℕ → Type 0 = λ t. AreSlots vs (λ i. cond (eqb i f) (Some (record { channel = channel; note = begun voice t key velocity; key_state = Down }))
    (s.slots i)) in
    subst P vo (subst Q sw h)

-- the LFO adopts the settings of the voice, and a key goes down
pub pressed_is : (l : Lfo) (s : State) (voice : List ℕ) → voice ≡ s.voice → IsLfo l (key_pressed (assigned (lfo_settings voice) s.lfo s.steps) 0) 0
    → IsLfo l (key_pressed (assigned (lfo_settings s.voice) s.lfo s.steps) 0) 0
pressed_is l s voice vo h = rw (← vo) h

pub none_is : (o : Option ℕ) → ((x : ℕ) → o ≡ Some x → ⊥) → o ≡ None
none_is None h = refl
none_is (Some x) h = absurd (h x refl)

pub switch_set : (s : State) (number value : ℕ) → number ≡ 155 → apply s (SetsParameter number value) ≡ record s { switch = value }
unfolding apply
switch_set s number value e = rw e refl

pub number_set : (s : State) (number value : ℕ) → number ≢ 155 → apply s (SetsParameter number value) ≡ record s { voice = set s.voice number value }
unfolding apply
number_set s number value ne = rw ne_eqb refl

-- the operator switch is six bits
pub switch_within : (number value : ℕ) → number ≡ 155 → value ≤ greatest_value number → value ≤ 63
unfolding greatest_value
switch_within number value e h = rw e at h

-- what holds of an answer that isn't refused
pub on_ok : {T E P : Type 0} (r : Result T E) → IsOk r → OnOk r P → P
on_ok (Ok x) h p = p
on_ok (Err e) h p = cc
