-- What a note's block is made from, as the code keeps it.
use Rattle.std.specs.Prelude.{ℕ, ◌≡◌, ◌≤◌, true, false, List, slice_index_or, ℤ, pos, Option, Some, None}
use Rattle.operator_kernel.specs.declared.FeedbackPath.{FeedbackPath}
use Rattle.operator_kernel.specs.Operator.{silent, feedback_sample, feedback_state_of}
use Rattle.operator_kernel.specs.Paths.{no_path}
use Rattle.algorithm_bus.specs.declared.note_block.NoteBlock.{NoteBlock}
use Rattle.algorithm_bus.specs.Algorithms.{feedback_operator, is_carrier}
use Rattle.algorithm_bus.specs.Signals.{BlockInput, feedback_state_left}
use Rattle.algorithm_bus.specs.Buses.{IsBus, op_of, block_input_of}

abbrev pub block_input : NoteBlock → BlockInput
block_input b = block_input_of b.algorithm b.feedback b.ops b.feedback_state

-- all but the feedback state is as before
abbrev pub KeepsAllButState : NoteBlock → NoteBlock → Type 0
KeepsAllButState old new = (new.algorithm ≡ old.algorithm) × (new.feedback ≡ old.feedback) × (new.ops ≡ old.ops)

-- a carrier of the block sounds
abbrev pub HasSoundingCarrier : NoteBlock → Type 0
HasSoundingCarrier b = (o : ℕ) × (1 ≤ o) × (o ≤ 6) × (is_carrier b.algorithm o ≡ true) × (silent (op_of b.ops o) ≡ false)

-- the samples of the operator with feedback, where the algorithm has one
abbrev pub ArePathSamples : BlockInput → List ℤ → Type 0
ArePathSamples p fed = (o : ℕ) → feedback_operator p.algorithm ≡ Some o → IsBus (feedback_sample (p.op o) p.feedback p.feedback_state) fed

-- a block whose feedback path was run: these are its samples, the feedback state is what they leave, and all else is as before
pub record HasRunPath (old new : NoteBlock) (fed : List ℤ) : Type 0 where
  pub kept : KeepsAllButState old new
  pub samples : ArePathSamples (block_input old) fed
  pub feedback_state : feedback_state_of new.feedback_state ≡ feedback_state_left (block_input old)

-- for private functions and proofs: the path as the kernel takes it
abbrev pub path_by : NoteBlock → Option ℕ → FeedbackPath
path_by b None = no_path
path_by b (Some o) = record {
  op = op_of b.ops o;
  feedback = b.feedback;
  before_last = slice_index_or b.feedback_state 0 (pos 0);
  last = slice_index_or b.feedback_state 1 (pos 0);
}

abbrev pub feedback_path : NoteBlock → FeedbackPath
feedback_path b = path_by b (feedback_operator b.algorithm)
