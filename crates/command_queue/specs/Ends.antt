-- What contracts see of a line, of its ends and of what rests in it.
use Rattle.std.specs.Prelude.{◌≡◌, ℕ, ◌+◌, ◌<◌, min, List, [], ◌∷◌, ◌++◌, length, map, sum, slice_index_or}
use Rattle.atomic_table.specs.Seated.{TableId}
use Rattle.command_set.specs.Command.{CommandData}
use Rattle.command_set.specs.Entries.{EntryData, sent_by}
use Rattle.command_queue.specs.Entries.{quota_at, others_at, IsLegal}
use Rattle.command_queue.specs.Rule.{Accounts}

-- a line: which queue it is, how many entries may wait, and the quota of each end
pub record LineView : Type 0 where
  pub table : TableId
  pub places : ℕ
  pub quotas : List ℕ

-- an end that sends: its line, its number, all entries that were accepted of it, and how often it was refused
pub record SendView : Type 0 where
  pub line : LineView
  pub number : ℕ
  pub list : List EntryData
  pub refusals : ℕ

-- the end that takes: its line, all entries that it took, and how often it found the line empty
pub record TakeView : Type 0 where
  pub line : LineView
  pub list : List EntryData
  pub empties : ℕ

-- what rests of a line: the line, all entries that were taken so far, and of each end all that were accepted
pub record RestView : Type 0 where
  pub line : LineView
  pub list : List EntryData
  pub sent : List (List EntryData)

-- the greatest number of entries that this end may send
abbrev pub quota_of : SendView → ℕ
quota_of e = quota_at e.line.quotas e.number

-- the sum of the quotas of all other ends
abbrev pub others_of : SendView → ℕ
others_of e = others_at e.line.quotas e.number

-- the sum of all quotas
abbrev pub total_of : TakeView → ℕ
total_of e = sum e.line.quotas

-- one more, up to the greatest number of 64 bits
abbrev pub one_up : ℕ → ℕ
one_up n = min (n + 1) 18446744073709551615

-- the entry that an end sends next with this command
abbrev pub entry_of : SendView → ℕ → CommandData → EntryData
entry_of e sent_at command = record { script = e.number; seq = length e.list; sent_at = sent_at; command = command }

-- an end after an entry of it was accepted
abbrev pub accepted : SendView → EntryData → SendView
accepted e x = record e { list = e.list ++ x ∷ [] }

-- an end after it was refused
abbrev pub refused : SendView → SendView
refused e = record e { refusals = one_up e.refusals }

-- the taker after it took an entry
abbrev pub took : TakeView → EntryData → TakeView
took e x = record e { list = e.list ++ x ∷ [] }

-- the taker after it found nothing
abbrev pub found_empty : TakeView → TakeView
found_empty e = record e { empties = one_up e.empties }

-- a push found the line full, in a legal state with all entries that were accepted of this end
abbrev pub WasFull : SendView → Type 0
WasFull e = (taken waiting : List EntryData) × (length waiting ≡ e.line.places)
    × IsLegal e.line.quotas e.line.places taken waiting × (e.list ≡ sent_by e.number (taken ++ waiting))

-- a pop found nothing, in a legal state with all entries that were taken
abbrev pub WasEmpty : TakeView → Type 0
WasEmpty e = IsLegal e.line.quotas e.line.places e.list []

-- the line of this queue with these places and quotas
abbrev pub line_at : TableId → ℕ → List ℕ → LineView
line_at table places quotas = record { table = table; places = places; quotas = quotas }

-- an end of which nothing was accepted or refused yet
abbrev pub new_end : LineView → ℕ → SendView
new_end line number = record { line = line; number = number; list = []; refusals = 0 }

-- a taker that took nothing yet
abbrev pub new_taker : LineView → TakeView
new_taker line = record { line = line; list = []; empties = 0 }

-- one new end for each quota, in order of number
abbrev pub AreNewEnds : LineView → List SendView → Type 0
AreNewEnds line ends = (length ends ≡ length line.quotas) × ((k : ℕ) (d : SendView) → k < length ends → slice_index_or ends k d ≡ new_end line k)

-- these are all ends of the line, in order of number
abbrev pub AreEnds : LineView → List SendView → Type 0
AreEnds line ends = (length ends ≡ length line.quotas)
    × ((k : ℕ) (d : SendView) → k < length ends → ((slice_index_or ends k d).line ≡ line) × ((slice_index_or ends k d).number ≡ k))

-- what rests once the taker took these entries and the ends were joined
abbrev pub rest_of : LineView → List EntryData → List SendView → RestView
rest_of line list ends = record { line = line; list = list; sent = map (λ (e : SendView). e.list) ends }

-- what rests after one more entry was taken
abbrev pub rest_took : RestView → EntryData → RestView
rest_took r x = record r { list = r.list ++ x ∷ [] }

-- what was taken holds every accepted entry of every end
abbrev pub HoldsAll : RestView → Type 0
HoldsAll r = Accounts r.sent r.list

-- what was taken and what waits is legal, and it is what was accepted of the ends
abbrev pub IsSettled : RestView → List EntryData → Type 0
IsSettled r waiting = IsLegal r.line.quotas r.line.places r.list waiting × Accounts r.sent (r.list ++ waiting)
