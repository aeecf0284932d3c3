-- For private functions and proofs: what a reader of an order has in the middle of it.
use Rattle.std.specs.Prelude.{ℕ, ◌≡◌, ◌+◌, ◌<◌, ◌≤◌, List, [], ◌∷◌, ◌++◌, Option, None, Some, decimal, length, slice_index}
use Rattle.command_set.specs.Entries.{LoggedData, journal_data}
use Rattle.instrument.specs.Limits.{block_limit}
use Rattle.take_files.specs.Files.{header_text, order}
use Rattle.take_files.specs.Orders.{Follows, IsOrdered, OrderData, count_of, entry_limit, last_block}
use Rattle.take_files.specs.Chunks.{Standing, Clean, Faulty, OutOfMemory, line_feeds}
use Rattle.take_files.specs.declared.read.OrderFault.{OrderFault}
use Rattle.take_files.specs.declared.read.OrderFault.TheVariants as fault
use Rattle.take_files.specs.declared.listing.Listing.{Listing}

-- a first line of 1 up to the most blocks of a run, and of 1 to 256 scripts, without its line feed
pub record IsHeader (blocks scripts : ℕ) (line : List ℕ) : Type 0 where
  pub some_blocks : 1 ≤ blocks
  pub few_blocks : blocks ≤ block_limit
  pub some_scripts : 1 ≤ scripts
  pub few_scripts : scripts ≤ 256
  pub spelled : line ≡ header_text blocks scripts

-- four numbers with a space after each, and a text
abbrev pub numbered : ℕ → ℕ → ℕ → ℕ → List ℕ → List ℕ
numbered block due script seq more =
    decimal block ++ 32 ∷ (decimal due ++ 32 ∷ (decimal script ++ 32 ∷ (decimal seq ++ 32 ∷ more)))

-- what a journal tells of its next entry: the block of the last one, and how many of each script there are
pub record IsTally (scripts last : ℕ) (counts : List ℕ) (journal : List LoggedData) : Type 0 where
  pub block : last ≡ last_block 0 journal
  pub size : length counts ≡ scripts
  pub each : (script : ℕ) → script < scripts → slice_index counts script ≡ count_of script journal

-- what a listing says
abbrev pub listed : Listing → OrderData
listed l = record { journal = journal_data l.entries.items; blocks = l.blocks; scripts = l.scripts }

-- the entries of a listing are those of an order, and it counts them rightly
pub record IsListing (l : Listing) : Type 0 where
  pub ordered : IsOrdered (journal_data l.entries.items) l.blocks l.scripts
  pub tally : IsTally l.scripts l.last l.counts.items (journal_data l.entries.items)

-- an entry may stand after those of a listing
abbrev pub CanFollow : Listing → LoggedData → Type 0
CanFollow l entry = Follows (journal_data l.entries.items) l.blocks l.scripts entry

-- a listing has room for an entry
abbrev pub HasRoom : Listing → Type 0
HasRoom l = length (journal_data l.entries.items) < entry_limit

-- an order with one more entry
abbrev pub with_entry : OrderData → LoggedData → OrderData
with_entry o l = record { journal = o.journal ++ l ∷ []; blocks = o.blocks; scripts = o.scripts }

-- the text of an order
abbrev pub text_of : OrderData → List ℕ
text_of o = order o.journal o.blocks o.scripts

-- the listing of the lines that were read, if the first one was, is right
abbrev pub AreRead : Option Listing → Type 0
AreRead None = Unit {0}
AreRead (Some l) = IsListing l

-- the lines that were read
abbrev pub lines_read : Option Listing → List ℕ
lines_read None = []
lines_read (Some l) = text_of (listed l)

-- the number of the line after them
abbrev pub next_number : Option Listing → ℕ
next_number None = 1
next_number (Some l) = length (journal_data l.entries.items) + 2

-- how a reader stands with its fault, if it has one, and otherwise with the lines that were read and the part of one more
abbrev pub standing : Option OrderFault → Option Listing → List ℕ → Standing
standing None listing line = Clean (lines_read listing ++ line)
standing (Some (fault.Refused line kind)) listing part = Faulty line kind
standing (Some fault.Memory) listing part = OutOfMemory

-- the lines of a reader without a fault are right, and the part of one more has no line feed and at most 8256 bytes
abbrev pub IsReading : Option OrderFault → Option Listing → List ℕ → Type 0
IsReading None listing line = AreRead listing × (line_feeds line ≡ 0) × (length line ≤ 8256)
IsReading (Some why) listing line = Unit {0}
