use Rattle.std.proofs.Common.{ℕ, ◌<◌}
use Rattle.voice_record.specs.Packing.{Packs}
use Rattle.cartridge.specs.Cartridge.{slot_bytes, unpacked}
use Rattle.command_set.proofs.read_bytes.is_payload.Given as goal

-- the slots so far are packed
abbrev pub invariant-loop-slot : goal.invariant-loop-slot
invariant-loop-slot l = (k : ℕ) → k < l.slot → Packs (unpacked (slot_bytes l.bytes k)) (slot_bytes l.bytes k)
