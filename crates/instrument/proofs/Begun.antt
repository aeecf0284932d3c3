-- Slots whose blocks begin and end, up to an index.
use Rattle.std.proofs.Common.{zero, suc, false, ap, refl, ◌+ℤ◌, ℕ, Option, Some, None, List, length, get_or, set, ◌+◌, ◌<◌, ◌≤◌, ◌≢◌, ◌≡◌, ℤ, arith, below_more}
use Rattle.std.proofs.Common.{get_or-set_other, get_or-set_same}
use Rattle.algorithm_bus.specs.declared.note_block.NoteBlock.{NoteBlock}
use Rattle.operator_kernel.specs.Operator.{feedback_state_of}
use Rattle.algorithm_bus.specs.Signals.{feedback_state_left, note_output}
use Rattle.algorithm_bus.specs.NoteBlocks.{block_input}
use Rattle.note_voice.specs.declared.note.Note.{Note}
use Rattle.note_voice.specs.Modulation.{Modulation}
use Rattle.note_voice.specs.Note.{NoteData, after_block, feedback_state_before}
use Rattle.note_voice.specs.Running.{IsNote, IsNoteBegun}
use Rattle.note_voice.proofs.Blocks.{state_after_block, sample_is}
use Rattle.dx_tables.proofs.Loops.{set_more, set_rest}
use Rattle.instrument.specs.Blocks.{AreOutputs, sum_to}
use Rattle.instrument.specs.declared.slot.Slot.{Slot}
use Rattle.instrument.specs.State.{SlotData, mix_of, slot_later, slot_sample}
use Rattle.instrument.specs.declared.slot.Key.TheVariants.{Up}
use Rattle.instrument.specs.Running.{IsSlot, IsSlotBegun, AreSlots, AreSlotsBegun}

pub record AreBegunUpTo (i : ℕ) (m : Modulation) (ws : ℕ → Option SlotData) (vs : List Slot) (bs : List NoteBlock) : Type 0 where
  pub done : (k : ℕ) (d : Slot) (e : NoteBlock) → k < i → IsSlotBegun (get_or vs k d) (get_or bs k e) m (ws k)
  pub rest : (k : ℕ) (d : Slot) → i ≤ k → k < 16 → IsSlot (get_or vs k d) (ws k)

pub begun_none : (m : Modulation) (ws : ℕ → Option SlotData) (vs : List Slot) (bs : List NoteBlock) → AreSlots vs ws → AreBegunUpTo 0 m ws vs bs
begun_none m ws vs bs h = record { done = λ k d e lt. absurd (omega (arith, lt)); rest = λ k d le lt. h k d lt }

pub begun_next : (i : ℕ) (m : Modulation) (ws : ℕ → Option SlotData) (vs : List Slot) (bs : List NoteBlock) (v : Slot) (b : NoteBlock) → length vs ≡ 16
    → length bs ≡ 16 → i < 16 → AreBegunUpTo i m ws vs bs → IsSlotBegun v b m (ws i) → AreBegunUpTo (i + 1) m ws (set vs i v) (set bs i b)
begun_next i m ws vs bs v b ev eb lt a h = record {
  done = λ k d e l. below_more (λ k. (d : Slot) (e : NoteBlock) → IsSlotBegun (get_or (set vs i v) k d) (get_or (set bs i b) k e) m (ws k)) i
      (λ k l d e. let ne : k ≢ i = omega arith in rw (get_or-set_other vs i k v d ne, get_or-set_other bs i k b e ne) (a.done k d e l))
      (λ d e. let lv : i < length vs = rw ev lt in let lb : i < length bs = rw eb lt in
      rw (get_or-set_same vs i v d lv, get_or-set_same bs i b e lb) h) k l d e;
  rest = λ k d le l. set_rest (λ s. IsSlot s (ws k)) vs i v d k le (a.rest k d (omega arith) l);
}

pub begun_all : (i : ℕ) (m : Modulation) (ws : ℕ → Option SlotData) (vs : List Slot) (bs : List NoteBlock) → 16 ≤ i → AreBegunUpTo i m ws vs bs
    → AreSlotsBegun vs bs m ws
begun_all i m ws vs bs le a = λ k d e lt. a.done k d e (omega arith)

pub record AreEndedUpTo (i : ℕ) (m : Modulation) (ws : ℕ → Option SlotData) (bs : List NoteBlock) (vs : List Slot) : Type 0 where
  pub done : (k : ℕ) (d : Slot) → k < i → IsSlot (get_or vs k d) (slot_later m (ws k))
  pub rest : (k : ℕ) (d : Slot) (e : NoteBlock) → i ≤ k → k < 16 → IsSlotBegun (get_or vs k d) (get_or bs k e) m (ws k)

pub ended_none : (m : Modulation) (ws : ℕ → Option SlotData) (bs : List NoteBlock) (vs : List Slot) → AreSlotsBegun vs bs m ws → AreEndedUpTo 0 m ws bs vs
ended_none m ws bs vs h = record { done = λ k d lt. absurd (omega (arith, lt)); rest = λ k d e le lt. h k d e lt }

pub ended_next : (i : ℕ) (m : Modulation) (ws : ℕ → Option SlotData) (bs : List NoteBlock) (vs : List Slot) (v : Slot) → length vs ≡ 16 → i < 16
    → AreEndedUpTo i m ws bs vs → IsSlot v (slot_later m (ws i)) → AreEndedUpTo (i + 1) m ws bs (set vs i v)
ended_next i m ws bs vs v ev lt a h = record {
  done = λ k d below. let l : i < length vs = rw ev lt in set_more (λ k s. IsSlot s (slot_later m (ws k))) vs i v d l (λ k b. a.done k d b) h k below;
  rest = λ k d e le l. set_rest (λ s. IsSlotBegun s (get_or bs k e) m (ws k)) vs i v d k le (a.rest k d e (omega arith) l);
}

pub ended_all : (i : ℕ) (m : Modulation) (ws : ℕ → Option SlotData) (bs : List NoteBlock) (vs : List Slot) → 16 ≤ i → AreEndedUpTo i m ws bs vs
    → AreSlots vs (λ k. slot_later m (ws k))
ended_all i m ws bs vs le a = λ k d lt. a.done k d (omega arith)

-- a slot whose block was run
pub slot_ended : (v : Slot) (note' : Note) (b : NoteBlock) (m : Modulation) (kept : List ℤ) (w : Option SlotData) → (IsNote v.note None → IsNote note' None)
    → ((n : NoteData) → IsNoteBegun v.note n → feedback_state_of kept ≡ feedback_state_before n (length n.past) → IsNote note' (Some n)) → IsSlotBegun v b m w
    → feedback_state_of kept ≡ feedback_state_left (block_input b) → IsSlot (record { channel = v.channel; key = v.key; note = note'; key_state = v.key_state })
    (slot_later m w)
slot_ended v note' b m kept None idle ended h q = record { note_is = idle h.empty.note_is; key_state_is = h.empty.key_state_is }
slot_ended v note' b m kept (Some w) idle ended h q = record {
  channel_is = h.channel_is;
  key_is = h.key_is;
  note_is = ended (after_block w.note m) h.note_is (state_after_block w.note m (block_input b) kept h.block_is q);
  key_state_is = h.key_state_is;
}

-- what is run of a slot is what it sounds like
slot_output : (v : Slot) (b : NoteBlock) (m : Modulation) (w : Option SlotData) (j : ℕ) → IsSlotBegun v b m w
    → note_output (block_input b) j ≡ slot_sample m w j
slot_output v b m None j h = h.silent j
slot_output v b m (Some w) j h = sample_is (after_block w.note m) (length w.note.past) j (block_input b) h.block_is

no_slot : Slot
no_slot = record { channel = 0; key = 0; note = record { sounding = None }; key_state = Up }

pub slot_outputs : (vs : List Slot) (bs : List NoteBlock) (m : Modulation) (ws : ℕ → Option SlotData) → AreSlotsBegun vs bs m ws
    → AreOutputs bs (λ i j. slot_sample m (ws i) j)
slot_outputs vs bs m ws h = λ i d lt j. slot_output (get_or vs i no_slot) (get_or bs i d) m (ws i) j (h i no_slot d lt)

pub sum_is_mix : (m : Modulation) (ws : ℕ → Option SlotData) (k j : ℕ) → sum_to (λ i j. slot_sample m (ws i) j) k j ≡ mix_of m ws k j
unfolding sum_to mix_of
sum_is_mix m ws zero j = refl
sum_is_mix m ws (suc k) j = ap (λ z. z +ℤ slot_sample m (ws k) j) (sum_is_mix m ws k j)
