use Rattle.std.proofs.Common.{◌≡◌, length, ℕ, Option}
use Rattle.instrument.specs.State.{SlotData, key_up}
use Rattle.instrument.specs.Running.{AreSlots}
use Rattle.instrument.proofs.AllSlots.{AreSlotsUpTo}
use Rattle.instrument.proofs.slots.key_up_all.Given as goal

abbrev pub invariant-loop-i : goal.invariant-loop-i
invariant-loop-i l = record {
  len : length l.slots ≡ 16;
  slots : (ws : ℕ → Option SlotData) → AreSlots l.fn.slots ws → AreSlotsUpTo l.i (key_up l.is_pedal_down l.channel l.key) ws l.slots;
}
