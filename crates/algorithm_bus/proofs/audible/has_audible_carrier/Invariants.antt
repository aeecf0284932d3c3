use Rattle.std.proofs.Common.{◌≡◌, ◌<◌, ◌≤◌, ℕ, true}
use Rattle.operator_kernel.specs.Operator.{silent}
use Rattle.algorithm_bus.specs.Algorithms.{is_carrier}
use Rattle.algorithm_bus.specs.Buses.{op_of}
use Rattle.algorithm_bus.proofs.audible.has_audible_carrier.Given as goal

abbrev pub invariant-loop-k : goal.invariant-loop-k
invariant-loop-k l = (o : ℕ) → 1 ≤ o → o ≤ l.k → is_carrier l.algorithm o ≡ true → silent (op_of l.ops o) ≡ true
