use Rattle.std.proofs.Common.{◌≡◌, ℕ, ◌<◌, length}
use Rattle.voice_record.specs.Packing.{Packs}
use Rattle.cartridge.specs.Cartridge.{slot_bytes, unpacked}
use Rattle.cartridge.proofs.bank.Cartridge.from_payload.Given as goal

abbrev pub invariant-loop-slot : goal.invariant-loop-slot
invariant-loop-slot l = record {
  size : length l.packed.items ≡ 4096;
  filled : (k : ℕ) → k < l.slot → Packs (unpacked (slot_bytes l.payload k)) (slot_bytes l.packed.items k);
}
