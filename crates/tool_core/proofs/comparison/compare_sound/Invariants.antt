use Rattle.std.proofs.Common.{◌≡◌, ◌≤◌, ◌+◌, ◌-◌, ◌*◌, ℕ, List, length}
use Rattle.std.specs.Prelude.{Some, None}
use Rattle.outside.specs.Files.{file_of}
use Rattle.tool_core.specs.Reads.{HasGiven}
use Rattle.tool_core.specs.Comparisons.{IsPrefix}
use Rattle.tool_core.proofs.Sounds.{begun}
use Rattle.tool_core.proofs.comparison.compare_sound.Given as goal

abbrev pub invariant-chunks : goal.invariant-chunks
invariant-chunks g l = record {
  files : g.S.Shelf.files l.shelf ≡ g.S.Shelf.files l.fn.shelf;
  reading : g.S.Shelf.reading l.shelf ≡ g.S.Shelf.reading l.fn.shelf;
  writing : g.S.Shelf.writing l.shelf ≡ g.S.Shelf.writing l.fn.shelf;
  within : l.from ≤ l.blocks;
  journal : l.playback.journal ≡ l.fn.playback.journal;
  block : l.playback.block ≡ l.from;
  at : l.at ≡ 44 + 128 * l.from;
  given : HasGiven (g.S.Shelf.given l.fn.shelf) l.at (g.S.Shelf.given l.shelf);
  read : (file : List ℕ) → file_of (g.S.Shelf.files l.fn.shelf) l.name ≡ Some file → l.at ≤ length file;
  prefix : (file : List ℕ) → file_of (g.S.Shelf.files l.fn.shelf) l.name ≡ Some file → IsPrefix file (begun l.fn.playback.journal l.blocks l.from) None;
}

abbrev pub decreases-chunks : goal.decreases-chunks
decreases-chunks g l = l.blocks - l.from
