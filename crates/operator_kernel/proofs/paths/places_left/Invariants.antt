use Rattle.operator_kernel.specs.Places.{AreLeft}
use Rattle.operator_kernel.proofs.paths.places_left.Given as goal

abbrev pub invariant-loop-k : goal.invariant-loop-k
invariant-loop-k l = AreLeft l.paths l.done l.left
