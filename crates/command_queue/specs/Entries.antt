-- What holds of the entries that were taken from a queue and of those that wait in it.
use Rattle.std.specs.Prelude.{ℕ, ◌≡◌, ◌-◌, ◌<◌, ◌≤◌, List, ◌++◌, length, All, sum, slice_index}
use Rattle.command_set.specs.Command.{IsInRange}
use Rattle.command_set.specs.Entries.{EntryData, sent_by, AreQueued}

-- the greatest number of entries that an end may send
abbrev pub quota_at : List ℕ → ℕ → ℕ
quota_at quotas number = slice_index quotas number

-- the sum of the quotas of all other ends
abbrev pub others_at : List ℕ → ℕ → ℕ
others_at quotas number = sum quotas - slice_index quotas number

-- the entries that were taken and those that wait are queued, there are no more of an end than its quota, and every command is in range
pub record IsLegal (quotas : List ℕ) (places : ℕ) (taken waiting : List EntryData) : Type 0 where
  pub queued : AreQueued (length quotas) places taken waiting
  pub bounded : (number : ℕ) → length (sent_by number (taken ++ waiting)) ≤ quota_at quotas number
  pub ranges : All (λ e. IsInRange e.command) (taken ++ waiting)

-- the entry is the next of its end after those that were taken, and within the end's quota
abbrev pub IsNextOf : List ℕ → List EntryData → EntryData → Type 0
IsNextOf quotas taken x = (x.seq ≡ length (sent_by x.script taken)) × (x.seq < quota_at quotas x.script)
