use Rattle.std.proofs.Common.{◌≡◌, ℕ, Option, length}
use Rattle.instrument.specs.State.{SlotData}
use Rattle.instrument.specs.Running.{AreSlots, modulation_of}
use Rattle.instrument.proofs.Begun.{AreBegunUpTo}
use Rattle.instrument.proofs.slots.begin_all.Given as goal

abbrev pub invariant-loop-i : goal.invariant-loop-i
invariant-loop-i l = record {
  len : length l.slots ≡ 16;
  blocks_len : length l.blocks ≡ 16;
  begun : (ws : ℕ → Option SlotData) → AreSlots l.fn.slots ws → AreBegunUpTo l.i (modulation_of l.modulation) ws l.slots l.blocks;
}
