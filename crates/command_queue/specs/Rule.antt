-- The rule of the queue. One pass takes, and its role has the number of ends; the role of each end has what was accepted of it.
use Rattle.std.specs.Prelude.{◌≡◌, ℕ, ◌+◌, ◌<◌, ◌≤◌, true, false, List, [], ◌∷◌, ◌++◌, length, map, All, sum, slice_index_or}
use mathlib.Core.Option.{some}
use lib.ListN.{get_elem?}
use Rattle.crossbeam_queue.specs.Passes.{Pass, view}
use Rattle.command_set.specs.Command.{IsInRange}
use Rattle.command_set.specs.Entries.{EntryData, entry_data, sent_by}
use Rattle.command_set.specs.declared.entry.Entry.{Entry}
use Rattle.command_queue.specs.declared.rule.Role.{Role}
use Rattle.command_queue.specs.Entries.{IsLegal, IsNextOf}

-- entries as plain data
abbrev pub plain : List Entry → List EntryData
plain entries = map entry_data entries

-- what a pass knows
abbrev pub role_of : Pass Entry Role → Role
role_of pass = view pass

-- the role of a pass that is spent
abbrev pub nobody : Role
nobody = record { takes = false; sends = false; places = 0; quotas = []; number = 0; sent = []; opened = 0; made = 0; taken = []; known = [] }

-- the role of the first pass of a queue
abbrev pub root : Role
root = record nobody { takes = true }

-- the role of the pass that takes, once some ends were made
abbrev pub taker : ℕ → List ℕ → ℕ → Role
taker places quotas made = record nobody { takes = true; places = places; quotas = quotas; opened = 1; made = made }

-- the role of an end, with what was accepted of it
abbrev pub sender : ℕ → List ℕ → ℕ → List EntryData → Role
sender places quotas number sent = record nobody { sends = true; places = places; quotas = quotas; number = number; sent = sent }

-- the taker's role while ends are joined, with what it took and what the joined ends had sent
abbrev pub settler : ℕ → List ℕ → List EntryData → List (List EntryData) → Role
settler places quotas taken known = record (taker places quotas (length quotas)) { taken = taken; known = known }

-- the taker's role once one more end is made
abbrev pub one_more : Role → Role
one_more v = record v { made = v.made + 1 }

-- the role of the end that is made next
abbrev pub next_end : Role → Role
next_end v = sender v.places v.quotas v.made []

-- the taker's role once an end is joined
abbrev pub joined : Role → Role → Role
joined v w = record v { known = v.known ++ w.sent ∷ [] }

-- an end's role once an entry is accepted
abbrev pub with_sent : Role → EntryData → Role
with_sent v x = record v { sent = v.sent ++ x ∷ [] }

-- the taker's role once an entry is taken
abbrev pub with_taken : Role → EntryData → Role
with_taken v x = record v { taken = v.taken ++ x ∷ [] }

-- the taker's role with this list of what it took
abbrev pub with_list : Role → List EntryData → Role
with_list v xs = record v { taken = xs }

-- each of these lists is all entries of the end with its number, in order
abbrev pub Accounts : List (List EntryData) → List EntryData → Type 0
Accounts known all = (number : ℕ) → number < length known → slice_index_or known number [] ≡ sent_by number all

-- the role of an end beside the taker's: the end was made and not yet joined, its pass goes with its number, and its list is all of its entries
pub record IsEnd (t : Role) (all : List EntryData) (port : ℕ) (v : Role) : Type 0 where
  pub port_is : port ≡ v.number + 2
  pub made : v.number < t.made
  pub unjoined : length t.known ≤ v.number
  pub sent_is : v.sent ≡ sent_by v.number all
  pub places_is : v.places ≡ t.places
  pub quotas_is : v.quotas ≡ t.quotas

-- a role beside the taker's, by what it may do
abbrev pub Fits : Role → List EntryData → ℕ → Role → Type 0
Fits t all port v = (v.takes ≡ true → (port ≡ 0) × (v ≡ t)) × (v.sends ≡ true → IsEnd t all port v)

-- what holds between any two steps on the queue: what was taken and what waits is legal, and each pass has a role that fits the taker's
pub record Kept (waiting : List EntryData) (views : List Role) : Type 0 where
  pub t : Role
  pub legal : IsLegal t.quotas t.places t.taken waiting
  pub passes : length views ≡ t.made + 1 + t.opened
  pub ends : t.made ≤ length t.quotas
  pub made : All (λ x. x.script < t.made) (t.taken ++ waiting)
  pub joins : length t.known ≤ t.made
  pub known : Accounts t.known (t.taken ++ waiting)
  pub each : (port : ℕ) (v : Role) → get_elem? views port ≡ some v → Fits t (t.taken ++ waiting) port v

-- the rule, of the entries as they wait in the queue
abbrev pub Holds : List Entry → List Role → Type 0
Holds items views = Kept (plain items) views

-- a push that is accepted adds the entry to the end's list
abbrev pub Sent : Role → EntryData → Role → Type 0
Sent v x w = w ≡ with_sent v x

-- at one moment what waits is legal after some entries were taken, and those of this end are all that were accepted of it
abbrev pub SenderSees : Role → List EntryData → Type 0
SenderSees v waiting = (taken : List EntryData) × IsLegal v.quotas v.places taken waiting × (v.sent ≡ sent_by v.number (taken ++ waiting))

-- a pop adds the entry to the taker's list: it is of an end, in range and within the quotas, the next of its end, and of a joined end not all entries
-- were taken before
abbrev pub Took : Role → EntryData → Role → Type 0
Took v x w = (w ≡ with_taken v x) × (x.script < length v.quotas) × IsInRange x.command × (length v.taken < sum v.quotas)
    × (x.script < length v.known → length (sent_by x.script v.taken) < length (slice_index_or v.known x.script []))
    × IsNextOf v.quotas v.taken x

-- at one moment what waits is legal after what was taken, and all of it is what the joined ends had sent
abbrev pub TakerSees : Role → List EntryData → Type 0
TakerSees v waiting = IsLegal v.quotas v.places v.taken waiting × Accounts v.known (v.taken ++ waiting)
