use Rattle.std.proofs.Common.{◌≡◌, ◌*◌, take, pos, ◌+ℤ◌, ◌-ℤ◌, ◌≤ℤ◌, fold}
use Rattle.generator.proofs.samples.add_samples.Given as goal

abbrev pub invariant-loop-sample : goal.invariant-loop-sample
invariant-loop-sample l = record {
  value : l.total ≡ fold ◌+ℤ◌ l.sum (take l.sample-index l.samples);
  low : (l.sum -ℤ pos (32768 * l.sample-index)) ≤ℤ l.total;
  high : l.total ≤ℤ (l.sum +ℤ pos (32768 * l.sample-index));
}
