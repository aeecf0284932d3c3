-- What the turns begin with, and what holds of the players and the journal after them.
use Rattle.std.specs.Prelude.{ℕ, ◌≡◌, ◌-◌, ◌<◌, ◌==◌, List, [], ◌++◌, length, map, filter, sum, slice_index_or}
use Rattle.command_set.specs.Entries.{LoggedData}
use Rattle.command_queue.specs.Ends.{LineView, quota_of}
use Rattle.live_renderer.specs.Renderer.{RendererView}
use Rattle.lateness.specs.Late.{AreDue, AreTimed}
use Rattle.script_plan.specs.Plan.{PlannedData, due_blocks}
use Rattle.players.specs.Players.{PlayerView, entries}

-- the commands that are left of each player
abbrev pub plans_of : List PlayerView → List (List PlannedData)
plans_of players = map (λ (p : PlayerView). p.left) players

-- the commands of script k
abbrev pub plan_of : List (List PlannedData) → ℕ → List PlannedData
plan_of plans k = slice_index_or plans k []

-- how many commands all scripts together have, and all but one
abbrev pub many_commands : List (List PlannedData) → ℕ
many_commands plans = sum (map length plans)

abbrev pub others_than : List (List PlannedData) → ℕ → ℕ
others_than plans k = many_commands plans - length (plan_of plans k)

-- the blocks that the entries of a script were logged at, in order
abbrev pub blocks_of : ℕ → List LoggedData → List ℕ
blocks_of script journal = map (λ (l : LoggedData). l.block) (filter (λ (l : LoggedData). l.entry.script == script) journal)

-- the player of an end of the line by its number, of which nothing was sent or refused, and whose quota is just what is left
pub record IsFresh (line : LineView) (k : ℕ) (p : PlayerView) : Type 0 where
  pub line_is : p.end.line ≡ line
  pub number : p.end.number ≡ k
  pub list : p.end.list ≡ []
  pub refusals : p.end.refusals ≡ 0
  pub logged : p.logged ≡ 0
  pub quota : length p.left ≡ quota_of p.end

-- all ends of the line have such a player, in order
abbrev pub AreFresh : LineView → List PlayerView → Type 0
AreFresh line players =
    (length players ≡ length line.quotas) × ((k : ℕ) (d : PlayerView) → k < length players → IsFresh line k (slice_index_or players k d))

-- a renderer of the line that took nothing and rendered nothing; it may have found the line empty
pub record IsFreshRenderer (line : LineView) (r : RendererView) : Type 0 where
  pub line_is : r.taker.line ≡ line
  pub list : r.taker.list ≡ []
  pub journal : r.journal ≡ []
  pub blocks : r.blocks ≡ 0

-- What holds of script k wherever the turns end. What its end accepted are the first commands of its plan, as its entries, and the others
-- are left in its player. The journal has as many entries of it as its end accepted, each logged at the command's due block or above.
pub record HasPlayed (line : LineView) (k : ℕ) (plan : List PlannedData) (journal : List LoggedData) (player : PlayerView) : Type 0 where
  pub sent : List PlannedData
  pub split : plan ≡ sent ++ player.left
  pub list : player.end.list ≡ entries k 0 sent
  pub line_is : player.end.line ≡ line
  pub number : player.end.number ≡ k
  pub logged : length (blocks_of k journal) ≡ length player.end.list
  pub due : AreDue (due_blocks plan) (blocks_of k journal)

-- the same of all scripts, whose players are all ends of the line, in order; each end's quota is the number of its script's commands
pub record HavePlayed (line : LineView) (plans : List (List PlannedData)) (journal : List LoggedData) (players : List PlayerView) : Type 0 where
  pub many : length players ≡ length plans
  pub quotas : line.quotas ≡ map length plans
  pub each : (k : ℕ) (d : PlayerView) → k < length plans → HasPlayed line k (plan_of plans k) journal (slice_index_or players k d)

-- What all turns say of each script: as many refusals as late turns; delays of at most so many blocks; and a late or left command only where
-- the line has few places.
abbrev pub AreOnTime : LineView → ℕ → List (List PlannedData) → List LoggedData → List PlayerView → Type 0
AreOnTime line blocks plans journal players = (k : ℕ) (d : PlayerView) → k < length plans
    → AreTimed line.places (others_than plans k) blocks (due_blocks (plan_of plans k)) (blocks_of k journal) (slice_index_or players k d).end.refusals
