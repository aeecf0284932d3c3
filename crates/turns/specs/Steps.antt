-- For private functions and proofs: what holds between the parts of a turn.
use Rattle.std.specs.Prelude.{ℕ, zero, suc, ◌≡◌, ◌-◌, ◌<◌, ◌++◌, List, [], length, All, slice_index_or, ℤ}
use Rattle.command_set.specs.Entries.{LoggedData}
use Rattle.command_queue.specs.Ends.{LineView, others_of}
use Rattle.instrument.specs.Journal.{sound}
use Rattle.take_files.specs.Files.{wav_block}
use Rattle.live_renderer.specs.Renderer.{RendererView, Logs, KeepsSound}
use Rattle.lateness.specs.Late.{HasKept}
use Rattle.script_plan.specs.Plan.{PlannedData, due_blocks}
use Rattle.players.specs.Players.{PlayerView, IsReady, AreReady, AllTurned, entries}
use Rattle.turns.specs.Turns.{blocks_of}

-- some entries were taken, and logged at the present block
abbrev pub LogsSome : RendererView → RendererView → Type 0
LogsSome before now = (n : ℕ) × Logs n before now

-- a renderer that is about to render this block
abbrev pub at_block : ℕ → RendererView → RendererView
at_block t r = record r { blocks = t }

-- each player had its turn, and may have the next
abbrev pub HaveTurned : LineView → ℕ → List PlayerView → List PlayerView → Type 0
HaveTurned line t before now = AreReady line now × AllTurned t before now

-- the block before a turn was rendered, where there is one, and some entries were taken at the turn
abbrev pub HasRendered : ℕ → RendererView → RendererView → List ℤ → Type 0
HasRendered t before now samples =
    LogsSome (at_block t before) now × KeepsSound (at_block t before) now × (0 < t → samples ≡ sound before.journal (t - 1))

-- the bytes of the block before a turn
abbrev pub block_before : ℕ → List ℤ → List ℕ
block_before zero samples = []
block_before (suc t) samples = wav_block samples

-- the players are as before, but for the entries of each that were found in the journal
pub record HaveCounted (journal : List LoggedData) (before now : List PlayerView) : Type 0 where
  pub many : length now ≡ length before
  pub each : (k : ℕ) (d : PlayerView) → k < length before
      → slice_index_or now k d ≡ record (slice_index_or before k d) { logged = length (blocks_of k journal) }

-- What holds of script k after some turns. Its first commands were sent, as its entries, and as many entries of it are in the journal; and
-- what holds of their blocks.
pub record HadTurns (t : ℕ) (journal : List LoggedData) (k : ℕ) (p q : PlayerView) : Type 0 where
  pub sent : List PlannedData
  pub split : p.left ≡ sent ++ q.left
  pub list : q.end.list ≡ entries k 0 sent
  pub line : q.end.line ≡ p.end.line
  pub number : q.end.number ≡ p.end.number
  pub own : p.end.number ≡ k
  pub logged : q.logged ≡ length (blocks_of k journal)
  pub kept : HasKept p.end.line.places (others_of p.end) t (due_blocks sent) (due_blocks q.left) (blocks_of k journal) q.end.refusals

-- what holds after some turns: block t - 1 is the next to be rendered
pub record AfterTurns (t : ℕ) (line : LineView) (before : List PlayerView) (r : RendererView) (players : List PlayerView) : Type 0 where
  pub taker : r.taker.line ≡ line
  pub blocks : r.blocks ≡ t - 1
  pub many : length players ≡ length before
  pub played : (k : ℕ) (d : PlayerView) → k < length before → HadTurns t r.journal k (slice_index_or before k d) (slice_index_or players k d)
  pub ready : AreReady line players
