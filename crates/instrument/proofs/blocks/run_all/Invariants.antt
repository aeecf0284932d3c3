use Rattle.std.proofs.Common.{◌*◌, ◌^◌, ℕ, ℤ}
use Rattle.note_voice.specs.Mix.{IsAdded, IsSmall}
use Rattle.instrument.specs.Blocks.{AreOutputs, sum_to}
use Rattle.instrument.proofs.blocks.run_all.Given as goal

abbrev pub invariant-loop-k : goal.invariant-loop-k
invariant-loop-k l = record {
  added : (y : ℕ → ℕ → ℤ) → AreOutputs l.fn.blocks y → IsAdded (sum_to y l.k) l.fn.mix l.mix;
  small : IsSmall (l.k * 2 ^ 31) l.mix;
}
