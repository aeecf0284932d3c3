-- To settle is to take until none waits.
use Rattle.std.proofs.Common.{◌≡◌, List, [], ◌∷◌, ◌++◌, length, replicate, map, sym, ◌∙◌, ap, append_assoc}
use Rattle.std.proofs.lemmas.List.{append-nil}
use Rattle.command_set.specs.Entries.{EntryData, LoggedData}
use Rattle.instrument.specs.Logging.{logged_at}
use Rattle.schedule_core.specs.Core.{Core, Take, settled, run}

-- the core with another line and journal
abbrev with_lists : Core → List EntryData → List LoggedData → Core
with_lists c waiting journal = record c { waiting = waiting; journal = journal }

settling : (c : Core) (es : List EntryData) (journal : List LoggedData) → settled (with_lists c es journal) ≡ run (with_lists c es journal)
    (replicate (length es) Take)
settling c [] journal = ap (λ (all : List LoggedData). with_lists c [] all) (append-nil journal)
settling c (e ∷ es) journal =
    ap (λ (all : List LoggedData). with_lists c [] all) (sym (append_assoc journal (logged_at c.blocks e ∷ []) (map (logged_at c.blocks) es)))
    ∙ settling c es (journal ++ logged_at c.blocks e ∷ [])

pub settles_by_taking : (c : Core) → settled c ≡ run c (replicate (length c.waiting) Take)
settles_by_taking c = settling c c.waiting c.journal
