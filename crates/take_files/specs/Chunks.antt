-- An order that is read in chunks: how a reader stands once some bytes were fed.
use Rattle.std.specs.Prelude.{ℕ, ◌≡◌, ◌⊎◌, ◌+◌, ◌<◌, ◌≤◌, ◌==◌, if◌then◌else◌, List, [], ◌∷◌, Result, Ok, Err}
use Rattle.std.specs.List.{count_by}
use Rattle.take_files.specs.Orders.{IsRefused}
use Rattle.take_files.specs.declared.read.OrderKind.{OrderKind}
use Rattle.take_files.specs.declared.read.OrderFault.{OrderFault}
use Rattle.take_files.specs.declared.read.OrderFault.TheVariants as fault

-- how many lines of a text have ended
abbrev pub line_feeds : List ℕ → ℕ
line_feeds text = count_by (λ byte. byte == 10) text

-- how many bytes stand after the last line feed of a text, where so many stood before it
abbrev pub open_bytes : ℕ → List ℕ → ℕ
open_bytes n [] = n
open_bytes n (byte ∷ rest) = open_bytes (if byte == 10 then 0 else n + 1) rest

-- the first fault of a text, seen before more comes: its line has ended, or has more than 8256 bytes so far
abbrev pub IsSeen : List ℕ → ℕ → OrderKind → Type 0
IsSeen text line kind = IsRefused text line kind × ((line ≤ line_feeds text) ⊎ (8256 < open_bytes 0 text))

-- how a reader stands: this text was read, and no fault is seen in it; or this is the first fault; or memory ran out
pub data Standing : Type 0 where
  Clean : List ℕ → Standing
  Faulty : ℕ → OrderKind → Standing
  OutOfMemory : Standing

-- a reader that stands so may have been fed these bytes
abbrev pub HasFed : Standing → List ℕ → Type 0
HasFed (Clean text) fed = (text ≡ fed) × ((line : ℕ) (kind : OrderKind) → ¬ IsSeen fed line kind)
HasFed (Faulty line kind) fed = IsSeen fed line kind
HasFed OutOfMemory fed = Unit {0}

-- what a reader that stands so answers to a chunk
abbrev pub answer : Standing → Result (Unit {0}) OrderFault
answer (Clean text) = Ok tt
answer (Faulty line kind) = Err (fault.Refused line kind)
answer OutOfMemory = Err fault.Memory

-- a reader that stands so answers the same from then on
abbrev pub IsSettled : Standing → Type 0
IsSettled (Clean text) = ⊥
IsSettled (Faulty line kind) = Unit {0}
IsSettled OutOfMemory = Unit {0}
