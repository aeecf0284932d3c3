-- What contracts see of a journal that is played.
use Rattle.std.specs.Prelude.{ℕ, List}
use Rattle.command_set.specs.Entries.{LoggedData}

-- a journal, and the block up to which it was played
pub record PlaybackView : Type 0 where
  pub journal : List LoggedData
  pub block : ℕ
