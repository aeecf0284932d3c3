use Rattle.std.proofs.Common.{◌≡◌, ◌≤◌, ◌+◌, ◌-◌, ℕ, List, length, take, drop}
use Rattle.std.specs.Prelude.{Some}
use Rattle.outside.specs.Files.{file_of}
use Rattle.tool_core.specs.Reads.{HasGiven}
use Rattle.tool_core.proofs.comparison.compare_sound_chunk.Given as goal

abbrev pub invariant-comparing : goal.invariant-comparing
invariant-comparing g l = record {
  files : g.S.Shelf.files l.shelf ≡ g.S.Shelf.files l.fn.shelf;
  reading : g.S.Shelf.reading l.shelf ≡ g.S.Shelf.reading l.fn.shelf;
  writing : g.S.Shelf.writing l.shelf ≡ g.S.Shelf.writing l.fn.shelf;
  within : l.done ≤ length l.chunk;
  same : (file : List ℕ) → file_of (g.S.Shelf.files l.fn.shelf) l.name ≡ Some file → take l.done (drop l.fn.at file) ≡ take l.done l.chunk;
  at : l.at ≡ l.fn.at + l.done;
  given : (before : ℕ) → HasGiven before l.fn.at (g.S.Shelf.given l.fn.shelf) → HasGiven before l.at (g.S.Shelf.given l.shelf);
  read : (file : List ℕ) → file_of (g.S.Shelf.files l.fn.shelf) l.name ≡ Some file → l.fn.at ≤ length file → l.at ≤ length file;
}

abbrev pub decreases-comparing : goal.decreases-comparing
decreases-comparing g l = length l.chunk - l.done
