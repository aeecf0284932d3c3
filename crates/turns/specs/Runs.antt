-- What all turns begin with, and what they leave, wherever they end.
use Rattle.std.specs.Prelude.{ℕ, ◌≡◌, ◌≢◌, ◌<◌, ◌≤◌, List, length, All, Option, Result, OnOk, OnErr, option_map, slice_index_or}
use Rattle.outside.specs.Files.{Files, Lacks}
use Rattle.instrument.specs.Limits.{block_limit}
use Rattle.command_queue.specs.Ends.{LineView}
use Rattle.live_renderer.specs.Renderer.{RendererView, IsLive}
use Rattle.lateness.specs.Late.{AllBelow}
use Rattle.script_plan.specs.Plan.{PlannedData, due_blocks}
use Rattle.players.specs.Players.{PlayerView}
use Rattle.turns.specs.Turns.{AreFresh, IsFreshRenderer, HavePlayed, AreOnTime, plans_of, many_commands}
use Rattle.turns.specs.Written.{both_appended, BothBegun}

-- Renderer and players of a line did nothing yet, there is room for every command, each is due within the blocks, and both files are there.
pub record CanRun (line : LineView) (r : RendererView) (ps : List PlayerView) (turns : ℕ) (files : Option Files) (sound order : List ℕ) : Type 0 where
  pub players : AreFresh line ps
  pub renderer : IsFreshRenderer line r
  pub spare : many_commands (plans_of ps) ≤ r.spare
  pub blocks : (1 ≤ turns) × (turns ≤ block_limit)
  pub due : (k : ℕ) (d : PlayerView) → k < length ps → AllBelow turns (due_blocks (slice_index_or ps k d).left)
  pub differ : sound ≢ order
  pub has_sound : ¬ (Lacks files sound)
  pub has_order : ¬ (Lacks files order)

-- What is known of renderer and players of these plans. Where all turns were played, so many blocks were rendered, and the journal is timed.
pub record HaveRun {E : Type 0} (line : LineView) (turns : ℕ) (plans : List (List PlannedData)) (r : RendererView) (ps : List PlayerView)
    (result : Result (Unit {0}) E) : Type 0 where
  pub played : HavePlayed line plans r.journal ps
  pub taker : r.taker.line ≡ line
  pub live : IsLive r
  pub within : All (λ l. l.block < turns) r.journal
  pub on_time : OnOk result (AreOnTime line turns plans r.journal ps)
  pub rendered : OnOk result (r.blocks ≡ turns)

-- what stands in the two files: all that belongs there, or a prefix of it where a write failed
pub record AreWritten {E : Type 0} (sound samples order lines : List ℕ) (before now : Option Files) (result : Result (Unit {0}) E) : Type 0 where
  pub whole : OnOk result (now ≡ option_map (both_appended sound samples order lines) before)
  pub begun : OnErr result (BothBegun sound samples order lines before now)
