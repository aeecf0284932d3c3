use Rattle.std.proofs.Common.{◌≡◌}
use Rattle.command_queue.proofs.tests.fill.Given as goal

abbrev pub invariant-loop : goal.invariant-loop
invariant-loop g l = (l.end.line ≡ l.line) × (l.end.number ≡ l.fn.end.number)
