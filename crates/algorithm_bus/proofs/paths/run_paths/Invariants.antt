use Rattle.std.proofs.Common.{◌≡◌, ◌<◌, ◌≤◌, ℕ, [], length, slice_index_or}
use Rattle.algorithm_bus.specs.declared.note_block.NoteBlock.{NoteBlock}
use Rattle.algorithm_bus.specs.NoteBlocks.{HasRunPath}
use Rattle.algorithm_bus.proofs.paths.run_paths.Given as goal

abbrev pub invariant-loop-k : goal.invariant-loop-k
invariant-loop-k l = record {
  len : length l.blocks ≡ 16;
  done : (i : ℕ) (d e : NoteBlock) → i < l.k → HasRunPath (slice_index_or l.initial.blocks i d) (slice_index_or l.blocks i e) (slice_index_or l.fed i []);
  rest : (i : ℕ) (d : NoteBlock) → l.k ≤ i → slice_index_or l.blocks i d ≡ slice_index_or l.initial.blocks i d;
}
