use Rattle.std.proofs.Common.{◌≡◌, ℕ, List, Option, length}
use Rattle.algorithm_bus.specs.declared.note_block.NoteBlock.{NoteBlock}
use Rattle.note_voice.specs.Modulation.{Modulation}
use Rattle.instrument.specs.Blocks.{AreLeft}
use Rattle.instrument.specs.State.{SlotData}
use Rattle.instrument.specs.Running.{AreSlotsBegun}
use Rattle.instrument.proofs.Begun.{AreEndedUpTo}
use Rattle.instrument.proofs.slots.end_all.Given as goal

abbrev pub invariant-loop-i : goal.invariant-loop-i
invariant-loop-i l = record {
  len : length l.slots ≡ 16;
  ended : (bs : List NoteBlock) (m : Modulation) (ws : ℕ → Option SlotData) → AreSlotsBegun l.fn.slots bs m ws → AreLeft bs l.blocks
      → AreEndedUpTo l.i m ws bs l.slots;
}
