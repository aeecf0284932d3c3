use Rattle.std.proofs.Common.{take}
use Rattle.players.specs.Players.{NoneIsDue}
use Rattle.players.proofs.together.are_due.Given as goal

abbrev pub invariant-loop-player : goal.invariant-loop-player
invariant-loop-player l = NoneIsDue l.turn (take l.player-index l.players)
