use Rattle.std.proofs.Common.{◌≡◌, ◌<◌, ℕ, [], length, slice_index_or, pos}
use Rattle.operator_kernel.proofs.paths.lane_of.Given as goal

abbrev pub invariant-loop-j : goal.invariant-loop-j
invariant-loop-j l = record {
  len : length l.samples ≡ 64;
  sample : (j : ℕ) → j < l.j → slice_index_or l.samples j (pos 0) ≡ slice_index_or (slice_index_or l.rows j []) l.lane (pos 0);
}
