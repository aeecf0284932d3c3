-- For private functions and proofs: the blocks of sixteen slots before and after they are run.
use Rattle.std.specs.Prelude.{ℕ, zero, suc, ◌≡◌, ◌<◌, List, slice_index_or, ℤ, pos, ◌+ℤ◌}
use Rattle.operator_kernel.specs.Operator.{feedback_state_of}
use Rattle.algorithm_bus.specs.declared.note_block.NoteBlock.{NoteBlock}
use Rattle.algorithm_bus.specs.Signals.{feedback_state_left, note_output}
use Rattle.algorithm_bus.specs.NoteBlocks.{block_input}

-- the sum of the first k of some samples j
unfoldable pub sum_to : (ℕ → ℕ → ℤ) → ℕ → ℕ → ℤ
sum_to y zero j = pos 0
sum_to y (suc k) j = sum_to y k j +ℤ y k j

-- the blocks make these samples
abbrev pub AreOutputs : List NoteBlock → (ℕ → ℕ → ℤ) → Type 0
AreOutputs bs y = (i : ℕ) (d : NoteBlock) → i < 16 → (j : ℕ) → note_output (block_input (slice_index_or bs i d)) j ≡ y i j

-- what the blocks left are the last two samples of the operators with feedback
abbrev pub AreLeft : List NoteBlock → List NoteBlock → Type 0
AreLeft bs new = (i : ℕ) (d e : NoteBlock) → i < 16
    → feedback_state_of (slice_index_or new i d).feedback_state ≡ feedback_state_left (block_input (slice_index_or bs i e))
