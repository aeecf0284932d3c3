use Rattle.std.proofs.Common.{◌≡◌, map, take, string_bytes}
use Rattle.std.specs.Prelude.{IfSome}
use Rattle.tool_core.specs.Inputs.{AreGood}
use Rattle.tool_core.specs.Packing.{voices}
use Rattle.tool_core.proofs.Packs.{filled}
use Rattle.tool_core.proofs.pack.read_pack.Given as goal

abbrev pub invariant-loop-place : goal.invariant-loop-place
invariant-loop-place g l = record {
  good : IfSome (g.S.Shelf.files l.fn.shelf) (λ told. AreGood (voices (take l.place (map string_bytes l.files))) told);
  voices : IfSome (g.S.Shelf.files l.fn.shelf) (λ told. l.cartridge ≡ filled told (take l.place (map string_bytes l.files)) l.place);
  files : g.S.Shelf.files l.shelf ≡ g.S.Shelf.files l.fn.shelf;
  reading : g.S.Shelf.reading l.shelf ≡ g.S.Shelf.reading l.fn.shelf;
  writing : g.S.Shelf.writing l.shelf ≡ g.S.Shelf.writing l.fn.shelf;
}
