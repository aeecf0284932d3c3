use Rattle.std.proofs.Common.{◌≡◌, ◌≤◌, ◌++◌, length, map, vec_capacity}
use Rattle.std.specs.Prelude.{All}
use Rattle.players.specs.Players.{PlayerView}
use Rattle.turns.specs.Turns.{plans_of}
use Rattle.turns.proofs.opening.new_players.Given as goal

abbrev pub invariant-loop-end : goal.invariant-loop-end
invariant-loop-end l = record {
  ends : map (λ (p : PlayerView). p.end) l.players.items ≡ l.yielded;
  split : l.yielded ++ l.end-iterator.rest.items ≡ l.fn.ends.items;
  scripts : plans_of l.players.items ++ l.scripts.rest.items ≡ l.fn.scripts.items;
  logged : All (λ (p : PlayerView). p.logged ≡ 0) l.players.items;
  room : length l.fn.ends.items ≤ vec_capacity l.players;
}
