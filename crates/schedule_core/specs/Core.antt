-- The core of a schedule as plain data: scripts send entries into a line of limited length, and one taker logs them block by block.
use Rattle.std.specs.Prelude.{ℕ, ◌+◌, ◌-◌, ◌^◌, ◌<◌, ◌==◌, min, nat_lt, if◌then◌else◌, List, [], ◌∷◌, ◌++◌, length, map, replicate}
use Rattle.std.specs.Prelude.{slice_index_or, slice_set, ℤ}
use Rattle.command_set.specs.Command.{CommandData}
use Rattle.command_set.specs.Entries.{EntryData, LoggedData}
use Rattle.instrument.specs.Journal.{sound}
use Rattle.instrument.specs.Logging.{logged_at}

-- what became of a script's sends: the entries that were accepted, how often one was refused, and how many had been accepted at
-- the first refusal
pub record Sends : Type 0 where
  pub accepted : List EntryData
  pub refusals : ℕ
  pub first : ℕ

-- nothing was sent yet
abbrev pub no_sends : Sends
no_sends = record { accepted = []; refusals = 0; first = 0 }

-- how many entries may wait, the sends of each script, the entries that wait, the journal of those that were taken, and the blocks
-- that were rendered
pub record Core : Type 0 where
  pub places : ℕ
  pub scripts : List Sends
  pub waiting : List EntryData
  pub journal : List LoggedData
  pub blocks : ℕ

-- of a script by its number
abbrev pub sends_of : Core → ℕ → Sends
sends_of c script = slice_index_or c.scripts script no_sends

abbrev pub accepted_of : Core → ℕ → List EntryData
accepted_of c script = (sends_of c script).accepted

abbrev pub refusals_of : Core → ℕ → ℕ
refusals_of c script = (sends_of c script).refusals

abbrev pub first_of : Core → ℕ → ℕ
first_of c script = (sends_of c script).first

-- a core of so many places and scripts, of which nothing was sent yet
abbrev pub opening : ℕ → ℕ → Core
opening places scripts = record { places = places; scripts = replicate scripts no_sends; waiting = []; journal = []; blocks = 0 }

-- what may happen next: a script sends a command that was due at a block, the first entry is taken, a block is rendered, or all
-- entries are taken
pub data Step : Type 0 where
  Send : ℕ → ℕ → CommandData → Step
  Take : Step
  Render : Step
  Settle : Step

-- a script's next entry
abbrev pub next_entry : Core → ℕ → ℕ → CommandData → EntryData
next_entry c script due command = record { script = script; seq = length (accepted_of c script); sent_at = due; command = command }

-- one more entry of a script
abbrev pub with_entry : Sends → EntryData → Sends
with_entry s e = record s { accepted = s.accepted ++ e ∷ [] }

-- one more refusal of it, counted up to 2^64 - 1
abbrev pub with_refusal : Sends → Sends
with_refusal s = record s {
  refusals = min (s.refusals + 1) (2 ^ 64 - 1);
  first = if s.refusals == 0 then length s.accepted else s.first;
}

-- the entry goes last into the line and into its script's list
abbrev pub queued : Core → EntryData → Core
queued c e = record c {
  scripts = slice_set c.scripts e.script (with_entry (sends_of c e.script) e);
  waiting = c.waiting ++ e ∷ [];
}

-- a script is refused
abbrev pub refused : Core → ℕ → Core
refused c script = record c { scripts = slice_set c.scripts script (with_refusal (sends_of c script)) }

-- the first of the entries that wait is logged at the present block, if one waits
abbrev pub taken : Core → List EntryData → Core
taken c [] = c
taken c (e ∷ later) = record c { waiting = later; journal = c.journal ++ logged_at c.blocks e ∷ [] }

-- all entries that wait are logged at the present block, in order
abbrev pub settled : Core → Core
settled c = record c { waiting = []; journal = c.journal ++ map (logged_at c.blocks) c.waiting }

abbrev pub step : Core → Step → Core
step c (Send script due command) =
    if nat_lt (length c.waiting) c.places then queued c (next_entry c script due command) else refused c script
step c Take = taken c c.waiting
step c Render = record c { blocks = c.blocks + 1 }
step c Settle = settled c

-- steps one after the other
abbrev pub run : Core → List Step → Core
run c [] = c
run c (s ∷ steps) = run (step c s) steps

-- what a step answers: a block's 64 samples where one is rendered, those of the journal so far
abbrev pub answer : Core → Step → List (List ℤ)
answer c (Send script due command) = []
answer c Take = []
answer c Render = sound c.journal c.blocks ∷ []
answer c Settle = []

-- the blocks that these steps render, in order
abbrev pub answers : Core → List Step → List (List ℤ)
answers c [] = []
answers c (s ∷ steps) = answer c s ++ answers (step c s) steps

-- a send is of one of so many scripts
abbrev pub CanStep : ℕ → Step → Type 0
CanStep scripts (Send script due command) = script < scripts
CanStep scripts Take = Unit {0}
CanStep scripts Render = Unit {0}
CanStep scripts Settle = Unit {0}
