use Rattle.std.proofs.Common.{pos, slice_index_or}
use Rattle.operator_kernel.proofs.Buses.{IsMixedUpTo}
use Rattle.operator_kernel.proofs.operator.mix_all.Given as goal

abbrev pub invariant-loop-j : goal.invariant-loop-j
invariant-loop-j l = IsMixedUpTo l.j l.add (λ j. slice_index_or l.samples j (pos 0)) l.initial.bus l.bus
