-- What a journal says of the plans of all scripts.
use Rattle.std.specs.Prelude.{ℕ, ◌≡◌, ◌+◌, ◌<◌, ◌≤◌, List, ◌++◌, length, All}
use Rattle.command_set.specs.Command.{IsInRange}
use Rattle.command_set.specs.Entries.{LoggedData, entries_of, sent_by}
use Rattle.lateness.specs.Late.{AreDue, IsLateOrLeft}
use Rattle.script_plan.specs.Plan.{PlannedData, due_blocks}
use Rattle.players.specs.Players.{entries}
use Rattle.turns.specs.Turns.{plan_of, others_than, blocks_of}

-- the journal's entries of a script are those of the first commands of its plan, in order, each logged at the command's due block or above
pub record IsScriptBegun (journal : List LoggedData) (k : ℕ) (plan : List PlannedData) : Type 0 where
  pub sent : List PlannedData
  pub left : List PlannedData
  pub split : plan ≡ sent ++ left
  pub entries_are : sent_by k (entries_of journal) ≡ entries k 0 sent
  pub due : AreDue (due_blocks plan) (blocks_of k journal)

-- each entry is of one of the scripts, and each script was begun, or played to its end
pub record ArePlayed (journal : List LoggedData) (plans : List (List PlannedData)) : Type 0 where
  pub scripts : All (λ l. l.entry.script < length plans) journal
  pub each : (k : ℕ) → k < length plans → IsScriptBegun journal k (plan_of plans k)

-- The same, and where a command is logged above its due block, or isn't logged, the line has at most as many places as there are commands
-- before it and commands of all other scripts.
pub record IsTimed (journal : List LoggedData) (plans : List (List PlannedData)) (places : ℕ) : Type 0 where
  pub played : ArePlayed journal plans
  pub full : (k i : ℕ) → k < length plans → i < length (plan_of plans k)
      → IsLateOrLeft (due_blocks (plan_of plans k)) (blocks_of k journal) i → places ≤ i + others_than plans k
