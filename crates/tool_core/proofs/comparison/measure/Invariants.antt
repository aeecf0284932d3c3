use Rattle.std.proofs.Common.{◌≡◌, ◌≤◌, ◌-◌, ℕ, List, length}
use Rattle.std.specs.Prelude.{Some}
use Rattle.outside.specs.Files.{file_of}
use Rattle.tool_core.specs.Reads.{HasGiven}
use Rattle.tool_core.proofs.comparison.measure.Given as goal

abbrev pub invariant-measuring : goal.invariant-measuring
invariant-measuring g l = record {
  files : g.S.Shelf.files l.shelf ≡ g.S.Shelf.files l.fn.shelf;
  reading : g.S.Shelf.reading l.shelf ≡ g.S.Shelf.reading l.fn.shelf;
  writing : g.S.Shelf.writing l.shelf ≡ g.S.Shelf.writing l.fn.shelf;
  low : l.at ≤ 140000000;
  given : (before : ℕ) → HasGiven before l.from (g.S.Shelf.given l.fn.shelf) → HasGiven before l.at (g.S.Shelf.given l.shelf);
  within : (file : List ℕ) → file_of (g.S.Shelf.files l.fn.shelf) l.name ≡ Some file → l.from ≤ length file → l.at ≤ length file;
}

abbrev pub decreases-measuring : goal.decreases-measuring
decreases-measuring g l = 140000000 - l.at
