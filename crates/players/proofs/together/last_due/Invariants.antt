use Rattle.std.proofs.Common.{◌≤◌, length}
use Rattle.players.specs.Players.{NoneIsDueFrom}
use Rattle.players.proofs.together.last_due.Given as goal

abbrev pub invariant-loop-rest : goal.invariant-loop-rest
invariant-loop-rest l = (l.rest ≤ length l.players) × NoneIsDueFrom l.turn l.players l.rest

abbrev pub decreases-loop-rest : goal.decreases-loop-rest
decreases-loop-rest l = l.rest
