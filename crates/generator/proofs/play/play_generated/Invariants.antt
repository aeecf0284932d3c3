use Rattle.std.proofs.Common.{◌≡◌, ◌*◌, length, pos, ◌-ℤ◌, ◌≤ℤ◌}
use Rattle.generator.specs.Generated.{generated_journal, journal_below, sum_of_samples}
use Rattle.generator.specs.Playing.{IsInBlock}
use Rattle.generator.proofs.play.play_generated.Given as goal

abbrev pub invariant-loop-block : goal.invariant-loop-block
invariant-loop-block l = record {
  world : IsInBlock l.seed l.commands l.block 0 l.scripts l.world;
  sent : l.sent ≡ length (journal_below l.seed l.commands l.block);
  sum : l.sum ≡ sum_of_samples (generated_journal l.seed l.blocks) l.block;
  low : (pos 0 -ℤ pos (2097152 * l.block)) ≤ℤ l.sum;
  high : l.sum ≤ℤ pos (2097152 * l.block);
}
