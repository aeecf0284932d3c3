-- What contracts see of a renderer, what holds of it, and what its calls do.
use Rattle.std.specs.Prelude.{ℕ, ◌≡◌, ◌+◌, ◌-◌, ◌<◌, ◌≤◌, List, [], ◌∷◌, ◌++◌, length, map, All}
use Rattle.command_set.specs.Command.{IsInRange}
use Rattle.command_set.specs.Entries.{EntryData, LoggedData, entries_of}
use Rattle.command_queue.specs.Ends.{TakeView, one_up, found_empty, WasEmpty}
use Rattle.instrument.specs.Journal.{sound}
use Rattle.instrument.specs.Logging.{logged_at}
use Rattle.instrument.specs.Logging.{AreTakenUpTo}
use Rattle.live_renderer.specs.declared.stop.Stop.{Stop}
use Rattle.live_renderer.specs.declared.stop.Stop.TheVariants as stop
use Rattle.live_renderer.specs.declared.stop.TakeOne.{TakeOne}
use Rattle.live_renderer.specs.declared.stop.TakeOne.TheVariants as one

-- a renderer: the end that takes, the entries that were taken with their blocks, how many blocks were rendered, and how many entries still find room
pub record RendererView : Type 0 where
  pub taker : TakeView
  pub journal : List LoggedData
  pub blocks : ℕ
  pub spare : ℕ

-- a renderer that took nothing and rendered nothing
abbrev pub new_renderer : TakeView → ℕ → RendererView
new_renderer taker spare = record { taker = taker; journal = []; blocks = 0; spare = spare }

-- The journal's entries are those that the taker took. Their blocks don't fall, and none is above the present one. Each is of an end of the line,
-- and its command is in range.
pub record IsLive (v : RendererView) : Type 0 where
  pub list : entries_of v.journal ≡ v.taker.list
  pub order : AreTakenUpTo v.blocks v.journal
  pub ranges : All (λ l. IsInRange l.entry.command) v.journal
  pub scripts : All (λ l. l.entry.script < length v.taker.line.quotas) v.journal

-- so many entries were taken, and logged at the present block
pub record Logs (n : ℕ) (before now : RendererView) : Type 0 where
  pub entries : List EntryData
  pub many : length entries ≡ n
  pub journal : now.journal ≡ before.journal ++ map (logged_at before.blocks) entries
  pub list : now.taker.list ≡ before.taker.list ++ entries
  pub line : now.taker.line ≡ before.taker.line
  pub blocks : now.blocks ≡ before.blocks
  pub spare : now.spare ≡ before.spare - n

-- each block that was rendered is the sound of the later journal too
abbrev pub KeepsSound : RendererView → RendererView → Type 0
KeepsSound before now = (b : ℕ) → b < before.blocks → sound now.journal b ≡ sound before.journal b

-- what a take of one entry did: there was room and one was logged; or there was room and nothing waited; or there was no room
abbrev pub TookOne : TakeOne → RendererView → RendererView → Type 0
TookOne one.Got before now = (0 < before.spare) × Logs 1 before now × (now.taker.empties ≡ before.taker.empties)
TookOne one.Empty before now = (0 < before.spare) × (now ≡ record before { taker = found_empty before.taker }) × WasEmpty before.taker
TookOne one.NoRoom before now = (before.spare ≡ 0) × (now ≡ before)

-- why a take of what is ready stopped after so many entries: nothing waited, or as many were taken as there are places
abbrev pub StoppedBy : Stop → ℕ → RendererView → RendererView → Type 0
StoppedBy stop.Empty count before now = (count < before.taker.line.places) × (now.taker.empties ≡ one_up before.taker.empties) × WasEmpty now.taker
StoppedBy stop.Budget count before now = (count ≡ before.taker.line.places) × (now.taker.empties ≡ before.taker.empties)

-- a take of what is ready that ran out of memory after fewer entries than there are places
abbrev pub StoppedEarly : RendererView → RendererView → Type 0
StoppedEarly before now = (n : ℕ) × (n < before.taker.line.places) × Logs n before now × (now.taker.empties ≡ before.taker.empties)

-- one more block was rendered
abbrev pub rendered : RendererView → RendererView
rendered v = record v { blocks = v.blocks + 1 }
