use Rattle.std.proofs.Common.{◌≡◌, ◌≤◌, ◌-◌}
use Rattle.std.specs.Prelude.{option_map}
use Rattle.outside.specs.Files.{Lacks}
use Rattle.tool_core.proofs.Sounds.{begun}
use Rattle.tool_core.proofs.Writings.{with_out}
use Rattle.tool_core.proofs.replay.write_sound.Given as goal

abbrev pub invariant-chunks : goal.invariant-chunks
invariant-chunks g l = record {
  within : l.from ≤ l.blocks;
  journal : l.playback.journal ≡ l.fn.playback.journal;
  block : l.playback.block ≡ l.from;
  files : g.S.Shelf.files l.shelf ≡ option_map (with_out l.name (begun l.fn.playback.journal l.blocks l.from)) (g.S.Shelf.files l.fn.shelf);
  has : Lacks (g.S.Shelf.files l.shelf) l.name → ⊥;
  writing : g.S.Shelf.writing l.shelf ≡ g.S.Shelf.writing l.fn.shelf;
  reading : g.S.Shelf.reading l.shelf ≡ g.S.Shelf.reading l.fn.shelf;
  given : g.S.Shelf.given l.shelf ≡ g.S.Shelf.given l.fn.shelf;
}

abbrev pub decreases-chunks : goal.decreases-chunks
decreases-chunks g l = l.blocks - l.from
