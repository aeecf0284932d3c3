use Rattle.std.proofs.Common.{◌≡◌, length}
use Rattle.algorithm_bus.specs.Audible.{AreClosed}
use Rattle.algorithm_bus.proofs.audible.audible_operators.Given as goal

abbrev pub invariant-loop-k : goal.invariant-loop-k
invariant-loop-k l = record {
  len : length l.kept ≡ 6;
  closed : AreClosed l.algorithm l.ops l.k l.kept;
}
