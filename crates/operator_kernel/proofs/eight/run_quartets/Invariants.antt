use Rattle.std.proofs.Common.{◌≡◌, length}
use Rattle.operator_kernel.specs.Quartets.{AreAt, AreRowsUpTo}
use Rattle.operator_kernel.proofs.eight.run_quartets.Given as goal

abbrev pub invariant-loop-j : goal.invariant-loop-j
invariant-loop-j l = record {
  low_at : AreAt l.low l.j l.at_low;
  high_at : AreAt l.high l.j l.at_high;
  low_len : length l.low_rows ≡ 64;
  high_len : length l.high_rows ≡ 64;
  low_rows : AreRowsUpTo l.low l.j l.low_rows;
  high_rows : AreRowsUpTo l.high l.j l.high_rows;
}
