use Rattle.std.proofs.Common.{◌≡◌, ℕ, ◌≤◌, length}
use Rattle.schedule_core.specs.Core.{accepted_of}
use Rattle.schedule_core.proofs.tests.one_schedule.Given as goal

abbrev pub invariant-loop-turn : goal.invariant-loop-turn
invariant-loop-turn g l = record {
  scripts : length l.world.scripts ≡ 3;
  accepted : (script : ℕ) → length (accepted_of l.world script) ≤ l.turn;
  blocks : l.world.blocks ≤ l.turn;
}
