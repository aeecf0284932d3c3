use Rattle.std.proofs.Common.{◌≡◌, ◌≤◌}
use Rattle.command_queue.proofs.tests.take_some.Given as goal

abbrev pub invariant-loop : goal.invariant-loop
invariant-loop g l = (l.taker.line ≡ l.line) × (l.taken ≤ l.number)
