-- What holds of a core after every schedule.
use Rattle.std.specs.Prelude.{ℕ, ◌≡◌, ◌+◌, ◌<◌, ◌≤◌, List, ◌++◌, length, map, replicate, All}
use Rattle.std.specs.List.{range_with_len}
use Rattle.command_set.specs.Entries.{AreQueued, entries_of, sent_by}
use Rattle.instrument.specs.Journal.{sound}
use Rattle.instrument.specs.Logging.{AreTakenUpTo}
use Rattle.schedule_core.specs.Core.{Core, accepted_of, refusals_of, first_of, opening, Step, Take, Settle, step, run, answers, CanStep}

-- The entries that were taken and those that wait are of scripts that there are, numbered in each, and no more wait than there
-- are places. What was accepted of a script is what was taken and what waits of it. When a script was first refused, as many
-- entries waited as there are places, so these and what was accepted of it since are at most all entries. The journal's blocks
-- don't fall.
pub record IsLegal (c : Core) : Type 0 where
  pub queued : AreQueued (length c.scripts) c.places (entries_of c.journal) c.waiting
  pub lists : (script : ℕ) → script < length c.scripts → accepted_of c script ≡ sent_by script (entries_of c.journal ++ c.waiting)
  pub marked : (script : ℕ) → script < length c.scripts → 0 < refusals_of c script
      → (first_of c script ≤ length (accepted_of c script))
      × (c.places + length (accepted_of c script) ≤ length c.journal + length c.waiting + first_of c script)
  pub blocks : AreTakenUpTo c.blocks c.journal

-- After the steps the core is legal, and each block answered was, and remains after more steps, the sound of the journal.
pub record HoldsOf (places scripts : ℕ) (steps more : List Step) : Type 0 where
  pub legal : IsLegal (run (opening places scripts) steps)
  pub sounds : answers (opening places scripts) steps
      ≡ map (sound (run (opening places scripts) (steps ++ more)).journal)
      (range_with_len 0 (run (opening places scripts) steps).blocks)

-- for so many places and scripts, and all steps that can be made
abbrev pub EverySchedule : Type 0
EverySchedule =
    (places scripts : ℕ) (steps more : List Step) → All (CanStep scripts) steps → All (CanStep scripts) more
    → HoldsOf places scripts steps more

-- to settle is to take until none waits
abbrev pub SettlesByTaking : Type 0
SettlesByTaking = (c : Core) → step c Settle ≡ run c (replicate (length c.waiting) Take)
