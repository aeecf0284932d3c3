use Rattle.std.proofs.Common.{◌≡◌, ◌<◌, ℕ, length, slice_index_or}
use Rattle.operator_kernel.specs.Paths.{IsPath, path_at}
use Rattle.algorithm_bus.specs.declared.note_block.NoteBlock.{NoteBlock}
use Rattle.algorithm_bus.specs.NoteBlocks.{feedback_path}
use Rattle.algorithm_bus.proofs.paths.paths_of.Given as goal

abbrev pub invariant-loop-k : goal.invariant-loop-k
invariant-loop-k l = record {
  len : length l.paths ≡ 16;
  value : (i : ℕ) (d : NoteBlock) → i < l.k → path_at l.paths i ≡ feedback_path (slice_index_or l.blocks i d);
  range : (i : ℕ) → i < l.k → IsPath (path_at l.paths i);
}
