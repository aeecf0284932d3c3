use Rattle.std.proofs.Common.{◌≡◌, length}
use Rattle.operator_kernel.specs.Operator.{HasGains}
use Rattle.algorithm_bus.proofs.Inaudible.{AreMutedUpTo, HaveGainsUpTo}
use Rattle.algorithm_bus.proofs.audible.only_audible.Given as goal

abbrev pub invariant-loop-k : goal.invariant-loop-k
invariant-loop-k l = record {
  len : length l.few ≡ 6;
  muted : AreMutedUpTo l.k l.ops l.few l.kept;
  gains : HaveGainsUpTo l.k l.few;
}
