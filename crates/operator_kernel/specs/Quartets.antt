-- For private functions and proofs: four feedback paths side by side, each a lane of the vectors.
use Rattle.std.specs.Prelude.{ℕ, ◌≡◌, ◌<◌, ◌≤◌, ◌+◌, ◌-◌, ◌^◌, false, List, [], ◌∷◌, length, slice_index_or, ℤ, pos, ◌+ℤ◌, unsigned_abs, FitsSigned}
use Rattle.std.specs.Int.{w32}
use Rattle.std.specs.Simd.Lanes.{Each1}
use Rattle.dx_tables.specs.Numbers.{wrap}
use Rattle.operator_kernel.specs.declared.FeedbackPath.{FeedbackPath}
use Rattle.operator_kernel.specs.declared.quartet.Quartet.{Quartet}
use Rattle.operator_kernel.specs.Operator.{FeedbackState, feedback_of, silent, gain_at, HasGains}
use Rattle.operator_kernel.specs.Lanes.{phase_of}
use Rattle.operator_kernel.specs.Paths.{path_at, path_sample, path_state, state_of}

-- a state whose sum is far from the ends of 32 bits, as it is from the third sample on
pub record IsSmallState (m : FeedbackState) : Type 0 where
  pub before_last : unsigned_abs m.before_last ≤ 2 ^ 29
  pub last : unsigned_abs m.last ≤ 2 ^ 29

-- an operator that sounds, with feedback above 0 and a small state
pub record IsLive (p : FeedbackPath) : Type 0 where
  pub gains : HasGains p.op
  pub sounds : silent p.op ≡ false
  pub heard : 1 ≤ p.feedback
  pub feedback : p.feedback ≤ 7
  pub small : IsSmallState (state_of p)

pub record AreLive (ps : List FeedbackPath) : Type 0 where
  pub live : (k : ℕ) → k < 4 → IsLive (path_at ps k)

-- the phases of sample j without feedback
abbrev pub phase_lanes : List FeedbackPath → ℕ → List ℤ
phase_lanes ps j = phase_of (path_at ps 0).op j ∷ phase_of (path_at ps 1).op j ∷ phase_of (path_at ps 2).op j ∷ phase_of (path_at ps 3).op j ∷ []

-- the gains of sample j
abbrev pub gains_of_four : List FeedbackPath → ℕ → List ℤ
gains_of_four ps j = gain_at (path_at ps 0).op j ∷ gain_at (path_at ps 1).op j ∷ gain_at (path_at ps 2).op j ∷ gain_at (path_at ps 3).op j ∷ []

-- the sample before the last one, and the last one, before sample j
abbrev pub befores : List FeedbackPath → ℕ → List ℤ
befores ps j = (path_state (path_at ps 0) j).before_last ∷ (path_state (path_at ps 1) j).before_last ∷ (path_state (path_at ps 2) j).before_last
    ∷ (path_state (path_at ps 3) j).before_last ∷ []

abbrev pub lasts : List FeedbackPath → ℕ → List ℤ
lasts ps j = (path_state (path_at ps 0) j).last ∷ (path_state (path_at ps 1) j).last ∷ (path_state (path_at ps 2) j).last
    ∷ (path_state (path_at ps 3) j).last ∷ []

-- sample j of each
abbrev pub fed_samples : List FeedbackPath → ℕ → List ℤ
fed_samples ps j = path_sample (path_at ps 0) j ∷ path_sample (path_at ps 1) j ∷ path_sample (path_at ps 2) j ∷ path_sample (path_at ps 3) j ∷ []

-- how far the sum of the last two samples is shifted
abbrev pub shift_lanes : List FeedbackPath → List ℤ
shift_lanes ps = pos (9 - (path_at ps 0).feedback) ∷ pos (9 - (path_at ps 1).feedback) ∷ pos (9 - (path_at ps 2).feedback)
    ∷ pos (9 - (path_at ps 3).feedback) ∷ []

-- the phase in lane k with its operator's feedback
abbrev pub fed_phase : ℕ → Quartet → ℕ → ℤ
fed_phase f q k =
    wrap (slice_index_or q.phases k (pos 0)
    +ℤ feedback_of f (record { before_last = slice_index_or q.before_last k (pos 0); last = slice_index_or q.last k (pos 0) }))

abbrev pub phases_with_feedback : List FeedbackPath → Quartet → List ℤ
phases_with_feedback ps q = fed_phase (path_at ps 0).feedback q 0 ∷ fed_phase (path_at ps 1).feedback q 1 ∷ fed_phase (path_at ps 2).feedback q 2
    ∷ fed_phase (path_at ps 3).feedback q 3 ∷ []

-- the vectors at sample j
pub record AreAt (ps : List FeedbackPath) (j : ℕ) (q : Quartet) : Type 0 where
  pub phases : q.phases ≡ phase_lanes ps j
  pub gains : q.gains ≡ gains_of_four ps j
  pub before_last : q.before_last ≡ befores ps j
  pub last : q.last ≡ lasts ps j

-- vectors of four lanes, with gains and samples that are not too large to be multiplied and added
pub record AreBounded (q : Quartet) : Type 0 where
  pub four_phases : length q.phases ≡ 4
  pub four_gains : length q.gains ≡ 4
  pub four_before : length q.before_last ≡ 4
  pub four_last : length q.last ≡ 4
  pub phases : Each1 (FitsSigned w32) q.phases
  pub gains : Each1 (λ g. unsigned_abs g ≤ 2 ^ 28) q.gains
  pub before_last : Each1 (λ x. unsigned_abs x ≤ 2 ^ 29) q.before_last
  pub last : Each1 (λ x. unsigned_abs x ≤ 2 ^ 29) q.last

-- the first n rows have the samples of each lane, a row for each sample
abbrev pub AreRowsUpTo : List FeedbackPath → ℕ → List (List ℤ) → Type 0
AreRowsUpTo ps n rows = (j : ℕ) → j < n → slice_index_or rows j [] ≡ fed_samples ps j

-- what a block of a path comes to in lane k: its samples, a row for each sample, and its last two
pub record IsLaneRun (p : FeedbackPath) (rows : List (List ℤ)) (k : ℕ) (before_last last : ℤ) : Type 0 where
  pub samples : (j : ℕ) → j < 64 → slice_index_or (slice_index_or rows j []) k (pos 0) ≡ path_sample p j
  pub before_last_is : before_last ≡ (path_state p 64).before_last
  pub last_is : last ≡ (path_state p 64).last

-- the same for four paths
pub record AreLanesRun (ps : List FeedbackPath) (rows : List (List ℤ)) (before_last last : List ℤ) : Type 0 where
  pub lane : (k : ℕ) → k < 4 → IsLaneRun (path_at ps k) rows k (slice_index_or before_last k (pos 0)) (slice_index_or last k (pos 0))
