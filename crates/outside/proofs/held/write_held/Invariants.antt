use Rattle.std.proofs.Common.{◌≡◌, ◌-◌, ◌≤◌, length, take}
use Rattle.std.specs.Io.KnownBytes.{Appends}
use Rattle.outside.proofs.held.write_held.Given as goal

abbrev pub invariant-loop-done : goal.invariant-loop-done
invariant-loop-done g l = record {
  bound : l.done ≤ length l.bytes.items;
  same : l.bytes.items ≡ l.fn.bytes.items;
  passed : Appends (g.F.Write.contents l.fn.file) (g.F.Write.contents l.file) (take l.done l.bytes.items);
}

abbrev pub decreases-loop-done : goal.decreases-loop-done
decreases-loop-done g l = length l.bytes.items - l.done
