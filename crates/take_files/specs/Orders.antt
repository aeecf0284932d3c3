-- Which journals an order file may list, and where a text stops being an order.
use Rattle.std.specs.Prelude.{ℕ, ◌≡◌, ◌≢◌, ◌⊎◌, ◌+◌, ◌^◌, ◌<◌, ◌≤◌, ◌==◌, List, [], ◌∷◌, ◌++◌, length, filter, take, slice_index_or}
use Rattle.command_set.specs.Command.{IsInRange}
use Rattle.command_set.specs.Entries.{LoggedData}
use Rattle.instrument.specs.Limits.{block_limit}
use Rattle.take_files.specs.Files.{order_header, order_line, order}
use Rattle.take_files.specs.declared.read.OrderKind.{OrderKind}
use Rattle.take_files.specs.declared.read.OrderKind.TheVariants.{Line, Block, Script, Sequence, Many}

-- the most entries of an order
abbrev pub entry_limit : ℕ
entry_limit = 1000000

-- how many entries of a script a journal has
abbrev pub count_of : ℕ → List LoggedData → ℕ
count_of script journal = length (filter (λ l. l.entry.script == script) journal)

-- the block of the last entry, or the first number where there is none
abbrev pub last_block : ℕ → List LoggedData → ℕ
last_block none [] = none
last_block none (l ∷ ls) = last_block l.block ls

-- the numbers of an entry have 32 bits, and its command is in range
pub record IsWritable (l : LoggedData) : Type 0 where
  pub block : l.block < 2 ^ 32
  pub due : l.entry.sent_at < 2 ^ 32
  pub script : l.entry.script < 2 ^ 32
  pub seq : l.entry.seq < 2 ^ 32
  pub command : IsInRange l.entry.command

-- the block of an entry is not below that of the entry before, nor below the one at which it was due, and it is one of the sound's
pub record HasBlock (journal : List LoggedData) (blocks : ℕ) (l : LoggedData) : Type 0 where
  pub later : last_block 0 journal ≤ l.block
  pub due : l.entry.sent_at ≤ l.block
  pub within : l.block < blocks

-- An entry may stand after the entries of a journal: its script is one of the run's, and its number is how many of the
-- script stand before it.
pub record Follows (journal : List LoggedData) (blocks scripts : ℕ) (l : LoggedData) : Type 0 where
  pub writable : IsWritable l
  pub block : HasBlock journal blocks l
  pub script : l.entry.script < scripts
  pub seq : l.entry.seq ≡ count_of l.entry.script journal

-- an order lists these entries: 1 up to the most blocks of a run, 1 to 256 scripts, and each entry may stand after those before it
pub record IsOrdered (journal : List LoggedData) (blocks scripts : ℕ) : Type 0 where
  pub some_blocks : 1 ≤ blocks
  pub few_blocks : blocks ≤ block_limit
  pub some_scripts : 1 ≤ scripts
  pub few_scripts : scripts ≤ 256
  pub few : length journal ≤ entry_limit
  pub each : (i : ℕ) (d : LoggedData) → i < length journal → Follows (take i journal) blocks scripts (slice_index_or journal i d)

-- a text begins with the line of this entry
pub record BeginsWith (text : List ℕ) (l : LoggedData) : Type 0 where
  pub writable : IsWritable l
  pub more : List ℕ
  pub spelled : text ≡ order_line l ++ more

-- what is wrong with the next line, after the entries of a journal: the first in this order
abbrev pub HasFault : OrderKind → List LoggedData → ℕ → ℕ → List ℕ → Type 0
HasFault Line journal blocks scripts text = (l : LoggedData) → ¬ BeginsWith text l
HasFault Block journal blocks scripts text = (l : LoggedData) × BeginsWith text l × (¬ HasBlock journal blocks l)
HasFault Script journal blocks scripts text = (l : LoggedData) × BeginsWith text l × HasBlock journal blocks l × (scripts ≤ l.entry.script)
HasFault Sequence journal blocks scripts text =
    (l : LoggedData) × BeginsWith text l × HasBlock journal blocks l × (l.entry.script < scripts)
    × (l.entry.seq ≢ count_of l.entry.script journal)
HasFault Many journal blocks scripts text =
    (l : LoggedData) × BeginsWith text l × Follows journal blocks scripts l × (length journal ≡ entry_limit)

-- the text has no first line of an order
abbrev pub HasNoHeader : List ℕ → Type 0
HasNoHeader text =
    (blocks scripts : ℕ) (more : List ℕ) → 1 ≤ blocks → blocks ≤ block_limit → 1 ≤ scripts → scripts ≤ 256
    → text ≢ order_header blocks scripts ++ more

-- a text that goes on after an order, with a line that has this fault
pub record StopsAfter (text : List ℕ) (kind : OrderKind) (journal : List LoggedData) (blocks scripts : ℕ) : Type 0 where
  pub ordered : IsOrdered journal blocks scripts
  pub rest : List ℕ
  pub some : rest ≢ []
  pub spelled : text ≡ order journal blocks scripts ++ rest
  pub fault : HasFault kind journal blocks scripts rest

-- the first fault of a text: in its first line, or in the line after the longest order that it begins with
abbrev pub IsRefused : List ℕ → ℕ → OrderKind → Type 0
IsRefused text line kind =
    ((line ≡ 1) × (kind ≡ Line) × HasNoHeader text)
    ⊎ ((journal : List LoggedData) × (blocks : ℕ) × (scripts : ℕ) × (line ≡ length journal + 2) × StopsAfter text kind journal blocks scripts)

-- what an order says: its journal, how many blocks its sound has, and how many scripts were played
pub record OrderData : Type 0 where
  pub journal : List LoggedData
  pub blocks : ℕ
  pub scripts : ℕ

-- the text is the order that says this
pub record IsOrder (text : List ℕ) (o : OrderData) : Type 0 where
  pub ordered : IsOrdered o.journal o.blocks o.scripts
  pub spelled : text ≡ order o.journal o.blocks o.scripts

-- A text is the order of one journal at most; it is no order where it has a fault; and it has one first fault at most.
pub record OrdersAreUnique : Type 0 where
  pub journals : (text : List ℕ) (a b : OrderData) → IsOrder text a → IsOrder text b → a ≡ b
  pub orders : (text : List ℕ) (o : OrderData) (line : ℕ) (kind : OrderKind) → IsOrder text o → IsRefused text line kind → ⊥
  pub faults : (text : List ℕ) (line other : ℕ) (kind second : OrderKind) → IsRefused text line kind → IsRefused text other second
      → (line ≡ other) × (kind ≡ second)
