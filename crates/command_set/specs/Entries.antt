-- Commands with their senders, in the order in which they were sent or taken.
use Rattle.std.specs.Prelude.{ℕ, ◌≡◌, ◌<◌, ◌≤◌, ◌==◌, List, ◌++◌, length, map, filter, All, slice_index_or}
use Rattle.command_set.specs.Command.{CommandData, content}
use Rattle.command_set.specs.declared.entry.Entry.{Entry}
use Rattle.command_set.specs.declared.entry.Logged.{Logged}

-- a command as plain data, with the number of its script, its place there, and the block at which it was due
pub record EntryData : Type 0 where
  pub script : ℕ
  pub seq : ℕ
  pub sent_at : ℕ
  pub command : CommandData

abbrev pub entry_data : Entry → EntryData
entry_data e = record { script = e.script; seq = e.seq; sent_at = e.sent_at; command = content e.command }

-- an entry with the block at which it was taken
pub record LoggedData : Type 0 where
  pub block : ℕ
  pub entry : EntryData

abbrev pub logged_data : Logged → LoggedData
logged_data l = record { block = l.block; entry = entry_data l.entry }

-- the plain data of a journal
abbrev pub journal_data : List Logged → List LoggedData
journal_data journal = map logged_data journal

-- the entries of a journal without their blocks
abbrev pub entries_of : List LoggedData → List EntryData
entries_of journal = map (λ l. l.entry) journal

-- the entries of a script, in order
abbrev pub sent_by : ℕ → List EntryData → List EntryData
sent_by script entries = filter (λ e. e.script == script) entries

-- entry i has seq i
abbrev pub AreNumbered : List EntryData → Type 0
AreNumbered entries = (i : ℕ) (d : EntryData) → i < length entries → (slice_index_or entries i d).seq ≡ i

-- what holds of the entries that were taken and of those that wait: they are of scripts below a number, those of each
-- script are numbered from 0 on, and no more wait than there are places
pub record AreQueued (scripts places : ℕ) (taken waiting : List EntryData) : Type 0 where
  pub made : All (λ e. e.script < scripts) (taken ++ waiting)
  pub numbered : (script : ℕ) → AreNumbered (sent_by script (taken ++ waiting))
  pub room : length waiting ≤ places
