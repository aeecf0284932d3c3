use Rattle.std.proofs.Common.{◌≡◌, ◌≤◌, IfSome, map, take, length, string_bytes}
use Rattle.std.specs.Prelude.{All}
use Rattle.play_core.specs.Limits.{command_limit, scripts_limit}
use Rattle.turns.specs.Turns.{many_commands}
use Rattle.play_core.specs.Scan.{AreBelow, AreRead}
use Rattle.play_core.proofs.scan.read_scripts.Given as goal

abbrev pub invariant-loop-name : goal.invariant-loop-name
invariant-loop-name g l = record {
  number : l.totals.scripts ≡ l.name-index;
  count : length l.scripts.items ≡ l.name-index;
  read : IfSome (g.S.Shelf.files l.fn.shelf) (λ told. AreRead told l.fn.blocks (map string_bytes (take l.name-index l.names)) l.scripts.items l.totals);
  commands : l.totals.commands ≡ many_commands l.scripts.items;
  few : l.totals.commands ≤ command_limit;
  short : l.totals.bytes ≤ scripts_limit;
  below : IfSome l.fn.blocks (λ b. All (λ one. AreBelow b one) l.scripts.items);
  files : g.S.Shelf.files l.shelf ≡ g.S.Shelf.files l.fn.shelf;
  failed : g.S.Shelf.failed l.shelf ≡ g.S.Shelf.failed l.fn.shelf;
  reading : g.S.Shelf.reading l.shelf ≡ g.S.Shelf.reading l.fn.shelf;
  writing : g.S.Shelf.writing l.shelf ≡ g.S.Shelf.writing l.fn.shelf;
}
