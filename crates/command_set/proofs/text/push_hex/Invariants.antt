use Rattle.std.proofs.Common.{◌≡◌, ◌++◌, take}
use Rattle.hex.specs.Hex.{encode_lower}
use Rattle.command_set.proofs.text.push_hex.Given as goal

abbrev pub invariant-loop-byte : goal.invariant-loop-byte
invariant-loop-byte l = l.into.items ≡ l.initial.into.items ++ encode_lower (take l.byte-index l.bytes)
