use Rattle.command_queue.proofs.Moves.{takes, taker_learns}
use Rattle.command_queue.proofs.line.pop.Goals as goal

pub pop_as-requires-clause-rule : goal.pop_as-requires-clause-rule
pop_as-requires-clause-rule g c = (takes _ _ c.requires.taker.0 c.requires.taker.1, taker_learns _ _ c.requires.taker.0)
