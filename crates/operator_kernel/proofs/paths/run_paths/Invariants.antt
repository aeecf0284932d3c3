use Rattle.std.proofs.Common.{ℕ, ◌≡◌, ◌<◌, true, false, slice_index_or}
use Rattle.operator_kernel.specs.Places.{AreKept, AreMarked}
use Rattle.operator_kernel.proofs.paths.run_paths.Given as goal

abbrev pub invariant-loop-k : goal.invariant-loop-k
invariant-loop-k l = record {
  marked : AreMarked l.done l.fn.paths l.paths l.samples;
  kept : AreKept l.fn.paths l.paths;
  run : (i : ℕ) → i < l.k → slice_index_or l.done i false ≡ true;
}
