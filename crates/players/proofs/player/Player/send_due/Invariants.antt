use Rattle.std.proofs.Common.{◌≡◌}
use Rattle.players.specs.Players.{IsReady, Advanced}
use Rattle.players.proofs.player.Player.send_due.Given as goal

abbrev pub invariant-loop : goal.invariant-loop
invariant-loop g l = record {
  ready : IsReady l.line l.self;
  so_far : Advanced l.turn l.fn.self l.self;
  quiet : l.self.end.refusals ≡ l.fn.self.end.refusals;
}
