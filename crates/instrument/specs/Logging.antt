-- Entries that are taken one after the other, and logged at the block that is rendered next.
use Rattle.std.specs.Prelude.{ℕ, ◌≤◌, ◌<◌, List, length, All, slice_index_or}
use Rattle.command_set.specs.Entries.{EntryData, LoggedData}

-- an entry in the journal
abbrev pub logged_at : ℕ → EntryData → LoggedData
logged_at block e = record { block = block; entry = e }

-- the blocks at which entries were taken don't fall, and none is above the present one
pub record AreTakenUpTo (present : ℕ) (journal : List LoggedData) : Type 0 where
  pub order : (i j : ℕ) (d : LoggedData) → i ≤ j → j < length journal
      → (slice_index_or journal i d).block ≤ (slice_index_or journal j d).block
  pub past : All (λ l. l.block ≤ present) journal
