-- Feedback paths: operators that modulate themselves, several notes' side by side.
use Rattle.std.specs.Prelude.{ℕ, ◌≡◌, ◌<◌, ◌≤◌, List, length, slice_index_or, ℤ, pos}
use Rattle.operator_kernel.specs.declared.FeedbackPath.{FeedbackPath}
use Rattle.operator_kernel.specs.Operator.{HasGains, FeedbackState, feedback_sample, feedback_state_after}

-- a path of an operator that does nothing
abbrev pub no_path : FeedbackPath
no_path = record { op = record { phase = pos 0; freq = pos 0; g1 = pos 0; g2 = pos 0 }; feedback = 0; before_last = pos 0; last = pos 0 }

-- a path of several by its place, from 0 on
abbrev pub path_at : List FeedbackPath → ℕ → FeedbackPath
path_at paths k = slice_index_or paths k no_path

-- its gains and its feedback are in range
pub record IsPath (p : FeedbackPath) : Type 0 where
  pub gains : HasGains p.op
  pub feedback : p.feedback ≤ 7

-- the two samples before the block
abbrev pub state_of : FeedbackPath → FeedbackState
state_of p = record { before_last = p.before_last; last = p.last }

-- sample j of the block
abbrev pub path_sample : FeedbackPath → ℕ → ℤ
path_sample p j = feedback_sample p.op p.feedback (state_of p) j

-- the two samples before sample j
abbrev pub path_state : FeedbackPath → ℕ → FeedbackState
path_state p j = feedback_state_after p.op p.feedback (state_of p) j

-- the path after the block: these are its samples, its last two are the state, and all else is as before
pub record IsPathRun (old new : FeedbackPath) (samples : List ℤ) : Type 0 where
  pub op : new.op ≡ old.op
  pub feedback : new.feedback ≡ old.feedback
  pub len : length samples ≡ 64
  pub sample : (j : ℕ) → j < 64 → slice_index_or samples j (pos 0) ≡ path_sample old j
  pub state : state_of new ≡ path_state old 64
