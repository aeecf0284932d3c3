-- For private functions and proofs: how the fields of a world stand for the core that contracts see.
use Rattle.std.specs.Prelude.{ℕ, ◌≡◌, ◌<◌, List, ◌++◌, length, map, slice_index_or}
use Rattle.std.specs.List.{range_with_len}
use Rattle.command_set.specs.declared.entry.Entry.{Entry}
use Rattle.command_set.specs.declared.entry.Logged.{Logged}
use Rattle.command_set.specs.Entries.{EntryData, entry_data, entries_of, journal_data, sent_by}
use Rattle.instrument.specs.declared.instrument.Instrument.{Instrument}
use Rattle.instrument.specs.Instrument.{IsIn}
use Rattle.instrument.specs.Journal.{state_at}
use Rattle.schedule_core.specs.declared.mark.Mark.{Mark}
use Rattle.schedule_core.specs.Core.{Core, Sends, sends_of}
use Rattle.schedule_core.specs.Schedule.{IsLegal}

-- the mark of a script of which nothing was sent
abbrev pub fresh_mark : Mark
fresh_mark = record { accepted = 0; refusals = 0; first = 0 }

abbrev pub mark_at : List Mark → ℕ → Mark
mark_at marks script = slice_index_or marks script fresh_mark

-- what became of a script's sends, by all entries that were accepted and by the marks
abbrev pub sends_in : List EntryData → List Mark → ℕ → Sends
sends_in all marks script = record {
  accepted = sent_by script all;
  refusals = (mark_at marks script).refusals;
  first = (mark_at marks script).first;
}

-- what contracts see: these places, this line, this journal, these blocks and these marks; what was accepted of a script is what
-- was taken and what waits of it
abbrev pub core_of : ℕ → List Entry → List Logged → ℕ → List Mark → Core
core_of places waiting journal blocks marks = record {
  places = places;
  scripts = map (sends_in (entries_of (journal_data journal) ++ map entry_data waiting) marks) (range_with_len 0 (length marks));
  waiting = map entry_data waiting;
  journal = journal_data journal;
  blocks = blocks;
}

-- a script's mark in a core
abbrev pub mark_in : Sends → Mark
mark_in sends = record { accepted = length sends.accepted; refusals = sends.refusals; first = sends.first }

abbrev pub mark_of : Core → ℕ → Mark
mark_of c script = mark_in (sends_of c script)

-- The core is legal and has these places, this line, this journal, these blocks and these marks; and the instrument is in the
-- state of the present block, after the commands that were taken so far.
pub record Stands
    (places : ℕ) (waiting : List Entry) (journal : List Logged) (blocks : ℕ) (marks : List Mark) (instrument : Instrument) (c : Core)
    : Type 0 where
  pub legal : IsLegal c
  pub limit : places ≡ c.places
  pub line : map entry_data waiting ≡ c.waiting
  pub log : journal_data journal ≡ c.journal
  pub time : blocks ≡ c.blocks
  pub ends : length marks ≡ length c.scripts
  pub counts : (script : ℕ) (d : Mark) → script < length c.scripts → slice_index_or marks script d ≡ mark_of c script
  pub playing : IsIn instrument (state_at c.journal c.blocks)
