-- The instrument as plain data: what a command does to it, and what its next block sounds like.
use Rattle.std.specs.Prelude.{ℕ, zero, suc, ◌+◌, ◌-◌, ◌%◌, ◌^◌, Bool, true, false, ◌&&◌, ◌||◌, ◌==◌, nat_lt, not, if◌then◌else◌}
use Rattle.std.specs.Prelude.{List, length, map, replicate, slice_set, Option, Some, None, option_map, ℤ, pos, neg_ℤ, ◌+ℤ◌}
use Rattle.std.specs.Int.{int_shr, int_min, int_max}
use Rattle.std.specs.List.{range_with_len}
use Rattle.std.specs.Option.{option_map_or}
use Rattle.voice_record.specs.Voice.{opening_voice}
use Rattle.voice_record.specs.declared.parameter.TheConstants.{OPERATOR_SWITCH}
use Rattle.cartridge.specs.Cartridge.{voice_at}
use Rattle.command_set.specs.Command.{CommandData, StartsNote, EndsNote, Bends, Controls, PicksProgram}
use Rattle.command_set.specs.Command.{SetsParameter, StoresVoice, LoadsVoice, LoadsCartridge}
use Rattle.command_set.specs.declared.command.TheConstants.{MODULATION_WHEEL, HOLD_PEDAL, ALL_NOTES_OFF}
use Rattle.block_rates.specs.Lfos.{LfoState, opening_lfo, lfo_settings, assigned, key_pressed, lfo_value, lfo_depth}
use Rattle.note_voice.specs.Modulation.{Modulation}
use Rattle.note_voice.specs.Note.{NoteData, begun, note_released, after_block, note_sample}
use Rattle.instrument.specs.declared.slot.Key.{Key}
use Rattle.instrument.specs.declared.slot.Key.TheVariants.{Down, Held, Up}

-- a note that has a slot, with its channel, and how its key stands: it is down, up and held by the pedal, or up
pub record SlotData : Type 0 where
  pub channel : ℕ
  pub note : NoteData
  pub key_state : Key

abbrev pub is_down : Key → Bool
is_down Down = true
is_down Held = false
is_down Up = false

abbrev pub is_held : Key → Bool
is_held Down = false
is_held Held = true
is_held Up = false

-- The cartridge's 32 voices, the voice and its operator switch, bend, wheel and pedal of all channels, the slot from which the next note looks for
-- a free one, the LFO with its steps since it adopted settings or a key went down, and what is in each slot from 0 to 15.
pub record State : Type 0 where
  pub bank : List (List ℕ)
  pub voice : List ℕ
  pub switch : ℕ
  pub bend : ℕ
  pub wheel : ℕ
  pub is_pedal_down : Bool
  pub next : ℕ
  pub lfo : LfoState
  pub steps : ℕ
  pub slots : ℕ → Option SlotData

-- a blank cartridge and the opening voice with all operators on; no bend, no wheel, the pedal up, and all slots empty
abbrev pub opening : State
opening = record {
  bank = replicate 32 opening_voice;
  voice = opening_voice;
  switch = 63;
  bend = 8192;
  wheel = 0;
  is_pedal_down = false;
  next = 0;
  lfo = opening_lfo;
  steps = 0;
  slots = λ _. None;
}

abbrev pub is_up : Option SlotData → Bool
is_up None = true
is_up (Some w) = not (is_down w.key_state)

-- the first of c numbers from m on that passes
unfoldable pub first_that : (ℕ → Bool) → ℕ → ℕ → Option ℕ
first_that passes m zero = None
first_that passes m (suc c) = if passes m then Some m else first_that passes (suc m) c

-- slot k of the round that begins at a slot
abbrev pub round_from : ℕ → ℕ → ℕ
round_from next k = (next + k) % 16

-- the first slot of the round from the next one on whose key is up
unfoldable pub free_slot : State → Option ℕ
free_slot s = option_map (round_from s.next) (first_that (λ k. is_up (s.slots (round_from s.next k))) 0 16)

-- a note of the voice whose key goes down
abbrev pub fresh : State → ℕ → ℕ → ℕ → SlotData
fresh s channel key velocity = record { channel = channel; note = begun s.voice s.switch key velocity; key_state = Down }

-- The note occupies the slot, and the round goes on after it. The LFO adopts the settings of the voice, and a key goes down.
abbrev pub occupied : State → SlotData → ℕ → State
occupied s w f = record s {
  next = (f + 1) % 16;
  lfo = key_pressed (assigned (lfo_settings s.voice) s.lfo s.steps) 0;
  steps = 0;
  slots = λ i. if i == f then Some w else s.slots i;
}

-- the slot with its key released, and no pedal that holds it
abbrev pub released : SlotData → SlotData
released w = record { channel = w.channel; note = note_released w.note; key_state = Up }

-- the slot with its key up, held by the pedal
abbrev pub held : SlotData → SlotData
held w = record { channel = w.channel; note = w.note; key_state = Held }

-- a slot whose key is down with this channel and key: its key goes up
abbrev pub key_up : Bool → ℕ → ℕ → Option SlotData → Option SlotData
key_up is_pedal_down channel key None = None
key_up is_pedal_down channel key (Some w) =
    if is_down w.key_state && (w.channel == channel && w.note.key == key) then Some (if is_pedal_down then held w else released w) else Some w

-- a slot that the pedal held
abbrev pub pedal_up : Option SlotData → Option SlotData
pedal_up None = None
pedal_up (Some w) = if is_held w.key_state then Some (released w) else Some w

-- a slot whose key was down or that the pedal held: it is released
abbrev pub released_if_sounding : Option SlotData → Option SlotData
released_if_sounding None = None
released_if_sounding (Some w) = if is_down w.key_state || is_held w.key_state then Some (released w) else Some w

-- the pedal, which is down from 64 on
abbrev pub pedal : State → ℕ → State
pedal s value = if nat_lt value 64 then record s { is_pedal_down = false; slots = λ i. pedal_up (s.slots i) } else record s { is_pedal_down = true }

-- the modulation wheel, the hold pedal, or all notes off; other controls do nothing
abbrev pub controlled : State → ℕ → ℕ → State
controlled s number value =
    if number == MODULATION_WHEEL then record s { wheel = value }
    else (if number == HOLD_PEDAL then pedal s value
    else (if number == ALL_NOTES_OFF then record s { slots = λ i. released_if_sounding (s.slots i) } else s))

-- another voice, with all operators on
abbrev pub voiced : State → List ℕ → State
voiced s voice = record s { voice = voice; switch = 63 }

-- a parameter of the voice, or the operator switch
abbrev pub with_parameter : State → ℕ → ℕ → State
with_parameter s number value = if number == OPERATOR_SWITCH then record s { switch = value } else record s { voice = slice_set s.voice number value }

-- what a command does
unfoldable pub apply : State → CommandData → State
apply s (StartsNote channel key velocity) = option_map_or (occupied s (fresh s channel key velocity)) (free_slot s) s
apply s (EndsNote channel key) = record s { slots = λ i. key_up s.is_pedal_down channel key (s.slots i) }
apply s (Bends channel value) = record s { bend = value }
apply s (Controls channel number value) = controlled s number value
apply s (PicksProgram channel number) = voiced s (voice_at s.bank (number % 32))
apply s (SetsParameter number value) = with_parameter s number value
apply s (StoresVoice slot) = record s { bank = slice_set s.bank slot s.voice }
apply s (LoadsVoice voice) = voiced s voice
apply s (LoadsCartridge voices) = record s { bank = voices }

-- what moves the notes in the next block: the LFO's next step, the bend and the wheel
abbrev pub modulation : State → Modulation
modulation s = record {
  lfo = lfo_value s.lfo (s.steps + 1);
  lfo_depth = lfo_depth s.lfo (s.steps + 1);
  bend = s.bend;
  wheel = s.wheel;
}

-- a slot one block later
abbrev pub slot_later : Modulation → Option SlotData → Option SlotData
slot_later m None = None
slot_later m (Some w) = Some (record { channel = w.channel; note = after_block w.note m; key_state = w.key_state })

-- the state one block later
unfoldable pub passed : State → State
passed s = record s { steps = s.steps + 1; slots = λ i. slot_later (modulation s) (s.slots i) }

-- sample j of the next block of a slot
abbrev pub slot_sample : Modulation → Option SlotData → ℕ → ℤ
slot_sample m None j = pos 0
slot_sample m (Some w) j = note_sample (after_block w.note m) (length w.note.past) j

-- sample j of the first i slots together
unfoldable pub mix_of : Modulation → (ℕ → Option SlotData) → ℕ → ℕ → ℤ
mix_of m slots zero j = pos 0
mix_of m slots (suc i) j = mix_of m slots i j +ℤ slot_sample m (slots i) j

-- a sum of notes as 16 bits: divided by 16, limited to one note's full scale, and shifted from 25 bits to 16
unfoldable pub output_of : ℤ → ℤ
output_of z = int_shr (int_max (neg_ℤ (pos (2 ^ 24))) (int_min (int_shr z 4) (pos (2 ^ 24 - 1)))) 9

-- the 64 samples of the next block
unfoldable pub samples : State → List ℤ
samples s = map (λ j. output_of (mix_of (modulation s) s.slots 16 j)) (range_with_len 0 64)
