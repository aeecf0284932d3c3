use Rattle.std.proofs.Common.{◌≡◌, ◌≤◌, map, to_z, of_z, w32, ◌∙◌, ap, length-set, arith}
use Rattle.operator_kernel.specs.Quartets.{fed_samples}
use Rattle.operator_kernel.proofs.Quartets.{bounded}
use Rattle.operator_kernel.proofs.Rows.{samples_read, rows_none, rows_next, lanes_run}
use Rattle.operator_kernel.proofs.eight.run_quartets.Goals as goal

pub loop-j-init : goal.loop-j-init
loop-j-init c = record {
  low_at = c.begin-at_low.ensures;
  high_at = c.begin-at_high.ensures;
  low_len = c.told-low_rows;
  high_len = c.told-high_rows;
  low_rows = rows_none c.args.low.now _;
  high_rows = rows_none c.args.high.now _;
}

pub samples-y-requires-clause-bounded : goal.samples-y-requires-clause-bounded
samples-y-requires-clause-bounded c = let lt = c.loop-j-test.true in
    bounded _ c.loop-j.j _ c.requires.low (omega (arith, lt)) c.loop-j.invariant.low_at

pub samples-z-requires-clause-bounded : goal.samples-z-requires-clause-bounded
samples-z-requires-clause-bounded c = let lt = c.loop-j-test.true in
    bounded _ c.loop-j.j _ c.requires.high (omega (arith, lt)) c.loop-j.invariant.high_at

pub loop-j-preserved : goal.loop-j-preserved
loop-j-preserved c =
    let j = c.loop-j.j in
    let v = c.loop-j.invariant in
    let lt = c.loop-j-test.true in
    let ey = c.samples-y.ensures j lt v.low_at in
    let ez = c.samples-z.ensures j lt v.high_at in
    let ty = ap (λ r. map (to_z w32) (map (of_z w32) r)) ey ∙ samples_read c.args.low.now j c.requires.low lt in
    let tz = ap (λ r. map (to_z w32) (map (of_z w32) r)) ez ∙ samples_read c.args.high.now j c.requires.high lt in
    record {
      low_at = c.later-at_low.ensures j lt v.low_at ty;
      high_at = c.later-at_high.ensures j lt v.high_at tz;
      low_len = simp length-set v.low_len;
      high_len = simp length-set v.high_len;
      low_rows = rows_next c.args.low.now j _ _ v.low_len lt v.low_rows ty;
      high_rows = rows_next c.args.high.now j _ _ v.high_len lt v.high_rows tz;
    }

pub returns-clause-low : goal.returns-clause-low
returns-clause-low c = lanes_run c.args.low.now _ _ c.loop-j.j (omega arith) c.requires.low c.loop-j.invariant.low_at c.loop-j.invariant.low_rows

pub returns-clause-high : goal.returns-clause-high
returns-clause-high c = lanes_run c.args.high.now _ _ c.loop-j.j (omega arith) c.requires.high c.loop-j.invariant.high_at c.loop-j.invariant.high_rows
