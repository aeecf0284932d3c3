-- For private functions and proofs: an instrument in the middle of a journal.
use Rattle.std.specs.Prelude.{ℕ, zero, suc, ◌≡◌, ◌≤◌, List}
use Rattle.command_set.specs.declared.entry.Logged.{Logged}
use Rattle.command_set.specs.Entries.{LoggedData, journal_data}
use Rattle.instrument.specs.declared.instrument.Instrument.{Instrument}
use Rattle.instrument.specs.Instrument.{IsIn}
use Rattle.instrument.specs.State.{State, opening, passed}
use Rattle.instrument.specs.Journal.{commands_at, state_at}
use Rattle.take_files.specs.Files.{AreOrdered}

-- the state in which a block begins, before its commands
abbrev pub state_before : List LoggedData → ℕ → State
state_before journal zero = opening
state_before journal (suc b) = passed (state_at journal b)

-- the instrument is where the block begins, and all commands from the block on wait
pub record IsPlaying (instrument : Instrument) (waiting : List Logged) (journal : List LoggedData) (block : ℕ) : Type 0 where
  pub playing : IsIn instrument (state_before journal block)
  pub ordered : AreOrdered block (journal_data waiting)
  pub rest : (b : ℕ) → block ≤ b → commands_at journal b ≡ commands_at (journal_data waiting) b
