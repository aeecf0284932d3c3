use Rattle.std.proofs.Common.{◌≡◌, ℕ, List, length, take}
use Rattle.players.specs.Players.{PlayerView}
use Rattle.turns.specs.Steps.{HaveCounted}
use Rattle.turns.proofs.settle.count_new.Given as goal

abbrev pub invariant-loop-i : goal.invariant-loop-i
invariant-loop-i l = record {
  many : length l.players ≡ length l.fn.players;
  counted : (before : List PlayerView) → HaveCounted (take l.fn.seen l.renderer.journal) before l.fn.players
      → HaveCounted (take l.i l.renderer.journal) before l.players;
}
