use Rattle.std.proofs.Common.{arith}
use Rattle.std.proofs.lemmas.Int.{ints, to_z-of_z}
use Rattle.std.proofs.lemmas.List.Sums.{fold_more}
use Rattle.generator.proofs.samples.add_samples.Goals as goal

pub loop-sample-preserved : goal.loop-sample-preserved
loop-sample-preserved c = record {
  value = grind (arith, ints, to_z-of_z, fold_more);
  low = omega (arith, ints);
  high = omega (arith, ints);
}
