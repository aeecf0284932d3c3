-- A player: its end, the commands that are left, and how many of its entries were found in the journal; and what a turn does.
use Rattle.std.specs.Prelude.{◌≡◌, ℕ, ◌+◌, ◌<◌, ◌≤◌, ◌⊎◌, List, [], ◌∷◌, ◌++◌, length, Option, None, Some, All, slice_index_or}
use Rattle.command_set.specs.Entries.{EntryData}
use Rattle.command_queue.specs.Ends.{LineView, SendView, quota_of, others_of, accepted, refused, entry_of, one_up}
use Rattle.lateness.specs.Late.{AllBelow, AllFrom, FirstBelow}
use Rattle.script_plan.specs.declared.script.Planned.{Planned}
use Rattle.script_plan.specs.Plan.{PlannedData, planned_data, IsPlan, due_blocks}
use Rattle.players.specs.declared.player.SendOutcome.{SendOutcome}
use Rattle.players.specs.declared.player.SendOutcome.TheVariants as outcome

pub record PlayerView : Type 0 where
  pub end : SendView
  pub left : List PlannedData
  pub logged : ℕ

-- the commands that are left: one that was refused comes before the script's others
abbrev pub left_of : Option Planned → List PlannedData → List PlannedData
left_of None script = script
left_of (Some c) script = planned_data c ∷ script

-- a command that was refused is due no later than the script's others
abbrev pub IsNext : Option Planned → List PlannedData → Type 0
IsNext None script = Unit {0}
IsNext (Some c) script = IsPlan (planned_data c ∷ script)

-- the player is of the line, and may send just what is left
pub record IsReady (line : LineView) (p : PlayerView) : Type 0 where
  pub line_is : p.end.line ≡ line
  pub quota : length p.end.list + length p.left ≡ quota_of p.end

abbrev pub AreReady : LineView → List PlayerView → Type 0
AreReady line players = All (λ p. IsReady line p) players

-- what one send did: it sent the first command, which is due; or the line was full; or nothing that is left is due
abbrev pub SentNext : SendOutcome → ℕ → PlayerView → PlayerView → Type 0
SentNext outcome.Sent t p q =
    (c : PlannedData) × (p.left ≡ c ∷ q.left) × (c.due ≤ t) × (q.end ≡ accepted p.end (entry_of p.end c.due c.command)) × (q.logged ≡ p.logged)
SentNext outcome.Refused t p q =
    (q ≡ record p { end = refused p.end }) × FirstBelow (t + 1) (due_blocks p.left) × (p.end.line.places ≤ length p.end.list + others_of p.end)
SentNext outcome.NotDue t p q = (q ≡ p) × AllFrom (t + 1) (due_blocks p.left)

-- the entries of commands of a script, from the number seq on
abbrev pub entries : ℕ → ℕ → List PlannedData → List EntryData
entries script seq [] = []
entries script seq (c ∷ cs) = record { script = script; seq = seq; sent_at = c.due; command = c.command } ∷ entries script (seq + 1) cs

-- the first of the commands that are left were sent, all of them due, and the end's list grew by their entries
pub record Advanced (t : ℕ) (p q : PlayerView) : Type 0 where
  pub sent : List PlannedData
  pub split : p.left ≡ sent ++ q.left
  pub due : AllBelow (t + 1) (due_blocks sent)
  pub list : q.end.list ≡ p.end.list ++ entries p.end.number (length p.end.list) sent
  pub line : q.end.line ≡ p.end.line
  pub number : q.end.number ≡ p.end.number
  pub logged : q.logged ≡ p.logged

-- Either no command that is left is due, and no refusal came; or the first one is due, and one refusal came, of a line that was full.
abbrev pub Stayed : ℕ → PlayerView → PlayerView → Type 0
Stayed t p q = AllFrom (t + 1) (due_blocks q.left) × (q.end.refusals ≡ p.end.refusals)

abbrev pub WasStopped : ℕ → PlayerView → PlayerView → Type 0
WasStopped t p q =
    FirstBelow (t + 1) (due_blocks q.left) × (q.end.line.places ≤ length q.end.list + others_of q.end) × (q.end.refusals ≡ one_up p.end.refusals)

-- what a turn did
abbrev pub Turned : ℕ → PlayerView → PlayerView → Type 0
Turned t p q = Advanced t p q × (Stayed t p q ⊎ WasStopped t p q)

-- what a turn of all did
abbrev pub AllTurned : ℕ → List PlayerView → List PlayerView → Type 0
AllTurned t ps qs = (k : ℕ) (d : PlayerView) → k < length ps → Turned t (slice_index_or ps k d) (slice_index_or qs k d)

-- no command that is left of any player is due at a turn
abbrev pub NoneIsDue : ℕ → List PlayerView → Type 0
NoneIsDue t players = All (λ p. AllFrom (t + 1) (due_blocks p.left)) players

-- the player at this place has a command that is due at a turn
abbrev pub IsDueAt : ℕ → List PlayerView → ℕ → Type 0
IsDueAt t players k = (k < length players) × ((d : PlayerView) → FirstBelow (t + 1) (due_blocks (slice_index_or players k d).left))

abbrev pub SomeIsDue : ℕ → List PlayerView → Type 0
SomeIsDue t players = (k : ℕ) × IsDueAt t players k

-- no player from this place on has one
abbrev pub NoneIsDueFrom : ℕ → List PlayerView → ℕ → Type 0
NoneIsDueFrom t players k =
    (i : ℕ) (d : PlayerView) → k ≤ i → i < length players → AllFrom (t + 1) (due_blocks (slice_index_or players i d).left)

-- the last player that has one is at this place; or none has one, and it is 0
abbrev pub IsLastDue : ℕ → List PlayerView → ℕ → Type 0
IsLastDue t players k = (IsDueAt t players k × NoneIsDueFrom t players (k + 1)) ⊎ ((k ≡ 0) × NoneIsDueFrom t players 0)
