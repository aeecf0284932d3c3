-- Slots that a loop has gone through up to an index, and a slot that a note occupies.
use Rattle.std.proofs.Common.{ℕ, Bool, true, false, Option, Some, List, length, get_or, set, eqb, cond, eqb-true, ◌+◌, ◌<◌, ◌≤◌, ◌≢◌, ◌≡◌, refl, arith}
use Rattle.std.proofs.Common.{below_more, get_or-set_other, get_or-set_same, subst}
use Rattle.std.proofs.lemmas.Bool.{eqb-false}
use Rattle.dx_tables.proofs.Loops.{set_more, set_rest}
use Rattle.instrument.specs.declared.slot.Slot.{Slot}
use Rattle.instrument.specs.State.{SlotData}
use Rattle.instrument.specs.Running.{IsSlot, AreSlots}

-- the first i slots hold f of the plain data, and the others the plain data
pub record AreSlotsUpTo (i : ℕ) (f : Option SlotData → Option SlotData) (ws : ℕ → Option SlotData) (vs : List Slot) : Type 0 where
  pub done : (k : ℕ) (d : Slot) → k < i → IsSlot (get_or vs k d) (f (ws k))
  pub rest : (k : ℕ) (d : Slot) → i ≤ k → k < 16 → IsSlot (get_or vs k d) (ws k)

pub AreSlotsUpTo-none : (f : Option SlotData → Option SlotData) (ws : ℕ → Option SlotData) (vs : List Slot) → AreSlots vs ws → AreSlotsUpTo 0 f ws vs
AreSlotsUpTo-none f ws vs h = record { done = λ k d lt. absurd (omega (arith, lt)); rest = λ k d le lt. h k d lt }

pub AreSlotsUpTo-next : (i : ℕ) (f : Option SlotData → Option SlotData) (ws : ℕ → Option SlotData) (vs : List Slot) (v : Slot) → length vs ≡ 16 → i < 16
    → AreSlotsUpTo i f ws vs → IsSlot v (f (ws i)) → AreSlotsUpTo (i + 1) f ws (set vs i v)
AreSlotsUpTo-next i f ws vs v e lt m h = record {
  done = λ k d below. let l : i < length vs = rw e lt in set_more (λ k s. IsSlot s (f (ws k))) vs i v d l (λ k b. m.done k d b) h k below;
  rest = λ k d le l. set_rest (λ s. IsSlot s (ws k)) vs i v d k le (m.rest k d (omega arith) l);
}

pub AreSlotsUpTo-all : (i : ℕ) (f : Option SlotData → Option SlotData) (ws : ℕ → Option SlotData) (vs : List Slot) → 16 ≤ i → AreSlotsUpTo i f ws vs
    → AreSlots vs (λ k. f (ws k))
AreSlotsUpTo-all i f ws vs le m = λ k d lt. m.done k d (omega arith)

-- slot i after a note occupied slot f
occupied_by : (vs : List Slot) (ws : ℕ → Option SlotData) (f i : ℕ) (v d : Slot) (w : SlotData) (t : Bool) → eqb i f ≡ t → length vs ≡ 16 → i < 16
    → AreSlots vs ws → IsSlot v (Some w) → IsSlot (get_or (set vs f v) i d) (cond t (Some w) (ws i))
occupied_by vs ws f i v d w true q e lt h m =
    let same : i ≡ f = eqb-true i f q in
    let l : i < length vs = rw e lt in
    let P : ℕ → Type 0 = λ k. IsSlot (get_or (set vs k v) i d) (Some w) in
    subst P same (rw get_or-set_same m)
occupied_by vs ws f i v d w false q e lt h m =
    let ne : i ≢ f = eqb-false i f q in
    rw get_or-set_other (h i d lt)

pub occupied_slots : (vs : List Slot) (ws : ℕ → Option SlotData) (f : ℕ) (v : Slot) (w : SlotData) → length vs ≡ 16 → AreSlots vs ws → IsSlot v (Some w)
    → AreSlots (set vs f v) (λ i. cond (eqb i f) (Some w) (ws i))
occupied_slots vs ws f v w e h m = λ i d lt. occupied_by vs ws f i v d w (eqb i f) refl e lt h m
