use Rattle.std.proofs.Common.{◌≡◌, ℕ, ◌<◌, length}
use Rattle.cartridge.specs.Cartridge.{slot_bytes}
use Rattle.cartridge.proofs.bank.Cartridge.blank.Given as goal

abbrev pub invariant-loop-slot : goal.invariant-loop-slot
invariant-loop-slot l = record {
  size : length l.packed.items ≡ 4096;
  filled : (k : ℕ) → k < l.slot → slot_bytes l.packed.items k ≡ l.voice;
}
