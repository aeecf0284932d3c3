use Rattle.std.proofs.Common.{◌≡◌, ◌≤◌, ◌-◌, ℕ, List, length, take}
use Rattle.std.specs.Prelude.{IfSome, Some}
use Rattle.std.specs.FinMap.{get}
use Rattle.outside.specs.Files.{file_of}
use Rattle.take_files.specs.Chunks.{HasFed}
use Rattle.tool_core.specs.Reads.{HasGiven}
use Rattle.tool_core.proofs.order.feed_file.Given as goal

abbrev pub invariant-feeding : goal.invariant-feeding
invariant-feeding g l = record {
  files : g.S.Shelf.files l.shelf ≡ g.S.Shelf.files l.fn.shelf;
  within : l.at ≤ 536870912;
  chunk : length l.chunk ≡ 65536;
  fed : IfSome (g.S.Shelf.files l.fn.shelf) (λ told. IfSome (get told l.name) (λ file. HasFed l.reader (take l.at file)));
  reading : g.S.Shelf.reading l.shelf ≡ g.S.Shelf.reading l.fn.shelf;
  writing : g.S.Shelf.writing l.shelf ≡ g.S.Shelf.writing l.fn.shelf;
  given : HasGiven (g.S.Shelf.given l.fn.shelf) l.at (g.S.Shelf.given l.shelf);
  low : (file : List ℕ) → file_of (g.S.Shelf.files l.fn.shelf) l.name ≡ Some file → l.at ≤ length file;
}

abbrev pub decreases-feeding : goal.decreases-feeding
decreases-feeding g l = 536870912 - l.at
