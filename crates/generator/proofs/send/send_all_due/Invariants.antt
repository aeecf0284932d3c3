use Rattle.std.proofs.Common.{ℕ}
use Rattle.generator.specs.Playing.{IsInBlock}
use Rattle.generator.proofs.send.send_all_due.Given as goal

abbrev pub invariant-loop-number : goal.invariant-loop-number
invariant-loop-number l = (seed : ℕ) → IsInBlock seed l.commands l.block 0 l.fn.scripts l.fn.world
    → IsInBlock seed l.commands l.block l.number l.scripts l.world
