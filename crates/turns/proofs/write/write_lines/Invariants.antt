use Rattle.std.proofs.Common.{◌≡◌, take}
use Rattle.std.specs.Prelude.{option_map}
use Rattle.command_set.specs.Entries.{journal_data}
use Rattle.outside.specs.Files.{appended}
use Rattle.turns.specs.Written.{order_lines}
use Rattle.turns.proofs.write.write_lines.Given as goal

abbrev pub invariant-loop-logged : goal.invariant-loop-logged
invariant-loop-logged g l = record {
  files : g.S.Shelf.files l.shelf ≡ option_map (appended l.order (order_lines (journal_data (take l.logged-index l.entries)))) (g.S.Shelf.files l.fn.shelf);
  writing : g.S.Shelf.writing l.shelf ≡ g.S.Shelf.writing l.fn.shelf;
  reading : g.S.Shelf.reading l.shelf ≡ g.S.Shelf.reading l.fn.shelf;
  failed : g.S.Shelf.failed l.shelf ≡ g.S.Shelf.failed l.fn.shelf;
  reads : g.S.Shelf.reads l.shelf ≡ g.S.Shelf.reads l.fn.shelf;
}
