use Rattle.std.proofs.Common.{◌≡◌, ◌+◌, length, replicate}
use Rattle.schedule_core.specs.Core.{run, Take}
use Rattle.schedule_core.specs.Schedule.{IsLegal}
use Rattle.schedule_core.proofs.world.World.settle.Given as goal

abbrev pub invariant-loop-count : goal.invariant-loop-count
invariant-loop-count l = record {
  counted : l.count + length l.self.waiting ≡ length l.fn.self.waiting;
  legal : IsLegal l.self;
  taken : l.self ≡ run l.fn.self (replicate l.count Take);
}

abbrev pub decreases-loop-count : goal.decreases-loop-count
decreases-loop-count l = length l.self.waiting
