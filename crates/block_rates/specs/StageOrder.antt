-- The order of the four stages, and what it is to be at one of them.
use Rattle.std.specs.Prelude.{◌≡◌, ◌≤◌, ℕ, ◌+◌, List, [], ◌∷◌, Option, Some, None}
use Rattle.block_rates.specs.declared.stage.Stage.{Stage}
use Rattle.block_rates.specs.declared.stage.Stage.TheVariants.{First, Second, Third, Fourth}
use Rattle.block_rates.specs.Stages.{Motion, after, four_stages}

-- what belongs to this stage
abbrev pub at_stage : {S : Type 0} → Stage → S → S → S → S → S
at_stage First first second third fourth = first
at_stage Second first second third fourth = second
at_stage Third first second third fourth = third
at_stage Fourth first second third fourth = fourth

-- the stages from this one on, up to where a value waits for the key
abbrev pub stages_from : {S : Type 0} → Stage → S → S → S → S → List S
stages_from First first second third fourth = first ∷ second ∷ third ∷ []
stages_from Second first second third fourth = second ∷ third ∷ []
stages_from Third first second third fourth = third ∷ []
stages_from Fourth first second third fourth = fourth ∷ []

-- the stage to go on in from a stage's target
abbrev pub next_stage : Stage → Stage
next_stage First = Second
next_stage Second = Third
next_stage Third = Third
next_stage Fourth = Fourth

-- whether this is a stage for a key that is down, or for one that was released by step k
abbrev pub IsReleasedBy : Stage → ℕ → Option ℕ → Type 0
IsReleasedBy Fourth k None = ⊥
IsReleasedBy Fourth k (Some off) = off ≤ k
IsReleasedBy _ k None = Unit {0}
IsReleasedBy _ k (Some off) = ⊥

-- a value in a stage belongs to the k-th step of four stages: what the stages that are left make of it is what they make of the start
pub record IsAt
    {S X : Type 0} (motion : Motion S X) (start : X) (stages : ℕ → S) (k : ℕ) (off : Option ℕ) (stage : Stage) (a b c d : S) (x : X)
    : Type 0 where
  pub first : a ≡ stages 0
  pub second : b ≡ stages 1
  pub third : c ≡ stages 2
  pub fourth : d ≡ stages 3
  pub released : IsReleasedBy stage k off
  pub values : (n : ℕ) → after motion (stages_from stage a b c d) x n ≡ four_stages motion start stages (k + n) off
