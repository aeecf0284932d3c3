use Rattle.std.proofs.Common.{ℕ, ◌+◌, ◌-◌, ◌<◌, ◌≤◌}
use Rattle.generator.specs.Generated.{due}
use Rattle.generator.specs.Scripts.{IsGenerated}
use Rattle.generator.specs.Playing.{CanSend, HasSentTo}
use Rattle.generator.proofs.send.send_due.Given as goal

abbrev pub invariant-loop-script : goal.invariant-loop-script
invariant-loop-script l = record {
  sent : (seed : ℕ) → CanSend l.number seed l.commands l.fn.script l.fn.world
      → HasSentTo l.fn.world l.number seed l.commands l.fn.script.count l.script l.world;
  generated : (seed : ℕ) → IsGenerated seed l.fn.script → IsGenerated seed l.script;
  past : (seed : ℕ) → IsGenerated seed l.fn.script → ((j : ℕ) → j < l.fn.script.count → due seed j < l.block + 1) → (j : ℕ) → j < l.script.count
      → due seed j < l.block + 1;
  up : l.fn.script.count ≤ l.script.count;
  few : l.fn.script.count ≤ l.commands → l.script.count ≤ l.commands;
}

abbrev pub decreases-loop-script : goal.decreases-loop-script
decreases-loop-script l = l.commands - l.script.count
