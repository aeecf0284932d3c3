use Rattle.std.proofs.Common.{◌≡◌, map, take}
use Rattle.std.specs.Prelude.{option_map}
use Rattle.tool_core.specs.Effects.{written}
use Rattle.tool_core.specs.Reads.{HoldsNone}
use Rattle.tool_core.specs.Scripts.{shown}
use Rattle.tool_core.proofs.generate.write_scripts.Given as goal

abbrev pub invariant-loop-at : goal.invariant-loop-at
invariant-loop-at g l = record {
  files : g.S.Shelf.files l.shelf ≡ option_map (written (map shown (take l.at l.files))) (g.S.Shelf.files l.fn.shelf);
  writing : g.S.Shelf.writing l.shelf ≡ g.S.Shelf.writing l.fn.shelf;
  reading : g.S.Shelf.reading l.shelf ≡ g.S.Shelf.reading l.fn.shelf;
  held : HoldsNone (map shown (take l.at l.files)) (g.S.Shelf.held l.shelf);
}
