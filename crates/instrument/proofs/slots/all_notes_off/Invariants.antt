use Rattle.std.proofs.Common.{◌≡◌, length, ℕ, Option}
use Rattle.instrument.specs.State.{SlotData, released_if_sounding}
use Rattle.instrument.specs.Running.{AreSlots}
use Rattle.instrument.proofs.AllSlots.{AreSlotsUpTo}
use Rattle.instrument.proofs.slots.all_notes_off.Given as goal

abbrev pub invariant-loop-i : goal.invariant-loop-i
invariant-loop-i l = record {
  len : length l.slots ≡ 16;
  slots : (ws : ℕ → Option SlotData) → AreSlots l.fn.slots ws → AreSlotsUpTo l.i released_if_sounding ws l.slots;
}
