-- For private functions and proofs: what is made before a file is touched.
use Rattle.std.specs.Prelude.{◌≡◌, ℕ, ◌≤◌, List, [], ◌∷◌, Option, vec_len, vec_capacity}
use Rattle.lateness.specs.Late.{AllBelow}
use Rattle.script_plan.specs.Plan.{PlannedData, due_blocks}
use Rattle.turns.specs.Turns.{AreFresh, IsFreshRenderer, plans_of, many_commands}
use Rattle.play_core.specs.declared.setup.Setup.{Setup}
use Rattle.instrument.specs.Limits.{block_limit}
use Rattle.play_core.specs.Verdict.{blocks_of_run, places_of_run}

-- each command of each script is due below the number of blocks
abbrev pub AreInTime : ℕ → List (List PlannedData) → Type 0
AreInTime blocks [] = Unit {0}
AreInTime blocks (plan ∷ plans) = AllBelow blocks (due_blocks plan) × AreInTime blocks plans

-- everything stands ready for these plans, with the numbers of blocks and places that were asked for
pub record IsSetup (blocks places : Option ℕ) (plans : List (List PlannedData)) (s : Setup) : Type 0 where
  pub players : AreFresh s.cast.line s.cast.players.items
  pub plans_are : plans_of s.cast.players.items ≡ plans
  pub renderer : IsFreshRenderer s.cast.line s.cast.renderer
  pub spare : many_commands plans ≤ s.cast.renderer.spare
  pub empty : s.cast.ends.items ≡ []
  pub room : vec_len s.cast.players ≤ vec_capacity s.cast.ends
  pub blocks_are : s.blocks ≡ blocks_of_run blocks plans
  pub some : 1 ≤ s.blocks
  pub few : s.blocks ≤ block_limit
  pub places_are : s.cast.line.places ≡ places_of_run places plans
  pub commands : s.commands ≡ many_commands plans
  pub due : AreInTime s.blocks plans
