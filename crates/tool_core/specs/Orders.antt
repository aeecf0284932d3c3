-- How an order is judged, and the sound file that is compared with its sound.
use Rattle.std.specs.Prelude.{ℕ, ◌≡◌, ◌≢◌, ◌<◌, ◌≤◌, List, length, Option, Some, None, nat_lt, if◌then◌else◌}
use Rattle.take_files.specs.declared.read.OrderKind.TheVariants.{Many}
use Rattle.take_files.specs.Orders.{IsOrder, IsRefused, OrderData}
use Rattle.tool_core.specs.declared.refusal.Refusal.{Refusal}
use Rattle.tool_core.specs.declared.refusal.Refusal.TheVariants.{TooLong, Fault, Cut, NoVoice, NoCartridge, Order}
use Rattle.tool_core.specs.Verdicts.{Verdict, Lacking, TooLarge, TooMany, Refused, Good}

-- the most bytes of an order, and of a sound file
abbrev pub order_limit : ℕ
order_limit = 536870912

abbrev pub sound_limit : ℕ
sound_limit = 140000000

-- the bytes are no order
abbrev pub IsNoOrder : List ℕ → Type 0
IsNoOrder file = (o : OrderData) → IsOrder file o → ⊥

-- the first fault of the bytes is in this line, and it isn't that there are too many entries
abbrev pub IsRefusedFor : Refusal → List ℕ → Type 0
IsRefusedFor (TooLong offset) file = ⊥
IsRefusedFor (Fault offset fault) file = ⊥
IsRefusedFor Cut file = ⊥
IsRefusedFor NoVoice file = ⊥
IsRefusedFor NoCartridge file = ⊥
IsRefusedFor (Order line kind) file = IsRefused file line kind × (kind ≢ Many)

-- the bytes of an order have this verdict
abbrev pub JudgesOrder : List ℕ → Verdict → Type 0
JudgesOrder file Lacking = ⊥
JudgesOrder file TooLarge = order_limit < length file
JudgesOrder file TooMany = (length file ≤ order_limit) × IsNoOrder file × ((line : ℕ) × IsRefused file line Many)
JudgesOrder file (Refused why) = (length file ≤ order_limit) × IsNoOrder file × IsRefusedFor why file
JudgesOrder file Good = (length file ≤ order_limit) × ((o : OrderData) × IsOrder file o)

-- the same of a file that may not be there
abbrev pub IsOrderVerdict : Option (List ℕ) → Verdict → Type 0
IsOrderVerdict None it = it ≡ Lacking
IsOrderVerdict (Some file) it = JudgesOrder file it

-- a sound file is good where it is there and not too long
unfoldable pub sound_verdict : Option (List ℕ) → Verdict
sound_verdict None = Lacking
sound_verdict (Some file) = if nat_lt sound_limit (length file) then TooLarge else Good
