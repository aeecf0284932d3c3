use Rattle.std.proofs.Common.{◌≡◌, ◌<◌, ℕ, pos, length, get_or}
use Rattle.instrument.specs.State.{output_of}
use Rattle.instrument.proofs.instrument.Instrument.block.Given as goal

abbrev pub invariant-loop-j : goal.invariant-loop-j
invariant-loop-j l = record {
  len : length l.out ≡ 64;
  done : (k : ℕ) → k < l.j → get_or l.out k (pos 0) ≡ output_of (get_or l.mix k (pos 0));
}
