-- The range of what a feed sends.
use Rattle.std.specs.Prelude.{◌≡◌, List, ◌++◌, All}
use Rattle.command_set.specs.Command.{IsInRange}
use Rattle.command_set.specs.Entries.{EntryData}
use Rattle.command_queue.specs.Ends.{SendView}

-- the entries that were accepted of an end since, each with a command in range: the velocity of a note-on is 1 to 127
pub record SendsInRange (old new : SendView) : Type 0 where
  pub entries : List EntryData
  pub list : new.list ≡ old.list ++ entries
  pub ranges : All (λ e. IsInRange e.command) entries
