-- What a slot of a running instrument, and what moves its notes in a block, stand for.
use Rattle.std.specs.Prelude.{ℕ, ◌≡◌, ◌<◌, Bool, false, List, length, slice_index_or, Option, Some, None, pos, unsigned_abs}
use Rattle.algorithm_bus.specs.declared.note_block.NoteBlock.{NoteBlock}
use Rattle.algorithm_bus.specs.Signals.{note_output}
use Rattle.algorithm_bus.specs.NoteBlocks.{block_input}
use Rattle.note_voice.specs.declared.note.Note.{Note}
use Rattle.note_voice.specs.Modulation.{Modulation}
use Rattle.note_voice.specs.Note.{after_block, note_input}
use Rattle.note_voice.specs.Running.{IsNote, IsNoteBegun}
use Rattle.instrument.specs.declared.modulation.BlockModulation.{BlockModulation}
use Rattle.instrument.specs.declared.slot.Slot.{Slot}
use Rattle.instrument.specs.State.{SlotData}
use Rattle.instrument.specs.declared.slot.Key.{Key}
use Rattle.instrument.specs.declared.slot.Key.TheVariants.{Up}

-- what moves the notes in a block, as plain data
abbrev pub modulation_of : BlockModulation → Modulation
modulation_of m = record { lfo = m.lfo; lfo_depth = unsigned_abs m.lfo_depth; bend = m.bend; wheel = m.wheel }

-- what is kept of an empty slot: an idle note, with its key up
pub record IsEmpty (note : Note) (key_state : Key) : Type 0 where
  pub note_is : IsNote note None
  pub key_state_is : key_state ≡ Up

-- what is kept of a slot that has a note stands for it
pub record IsOccupied (channel key : ℕ) (note : Note) (key_state : Key) (w : SlotData) : Type 0 where
  pub channel_is : channel ≡ w.channel
  pub key_is : key ≡ w.note.key
  pub note_is : IsNote note (Some w.note)
  pub key_state_is : key_state ≡ w.key_state

-- a slot stands for the plain data
abbrev pub IsSlot : Slot → Option SlotData → Type 0
IsSlot v None = IsEmpty v.note v.key_state
IsSlot v (Some w) = IsOccupied v.channel v.key v.note v.key_state w

-- what is kept of a slot whose note's block has begun, and what is to be run
pub record IsOccupiedBegun (channel key : ℕ) (note : Note) (key_state : Key) (b : NoteBlock) (m : Modulation) (w : SlotData) : Type 0 where
  pub channel_is : channel ≡ w.channel
  pub key_is : key ≡ w.note.key
  pub note_is : IsNoteBegun note (after_block w.note m)
  pub block_is : block_input b ≡ note_input (after_block w.note m) (length w.note.past)
  pub key_state_is : key_state ≡ w.key_state

-- an empty slot, whose block has no sound
pub record IsEmptyBegun (note : Note) (key_state : Key) (b : NoteBlock) : Type 0 where
  pub empty : IsEmpty note key_state
  pub silent : (j : ℕ) → note_output (block_input b) j ≡ pos 0

abbrev pub IsSlotBegun : Slot → NoteBlock → Modulation → Option SlotData → Type 0
IsSlotBegun v b m None = IsEmptyBegun v.note v.key_state b
IsSlotBegun v b m (Some w) = IsOccupiedBegun v.channel v.key v.note v.key_state b m w

abbrev pub AreSlotsBegun : List Slot → List NoteBlock → Modulation → (ℕ → Option SlotData) → Type 0
AreSlotsBegun vs bs m ws = (i : ℕ) (d : Slot) (e : NoteBlock) → i < 16 → IsSlotBegun (slice_index_or vs i d) (slice_index_or bs i e) m (ws i)

-- sixteen slots stand for the plain data
abbrev pub AreSlots : List Slot → (ℕ → Option SlotData) → Type 0
AreSlots vs ws = (i : ℕ) (d : Slot) → i < 16 → IsSlot (slice_index_or vs i d) (ws i)
