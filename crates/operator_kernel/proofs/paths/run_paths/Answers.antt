use Rattle.std.proofs.Common.{ℕ, ◌<◌, ◌≡◌, true, false, get_or, below_more, arith}
use Rattle.operator_kernel.specs.Paths.{path_at}
use Rattle.operator_kernel.proofs.Marks.{kept_then, marked_none, path_kept}
use Rattle.operator_kernel.proofs.paths.run_paths.Goals as goal

pub run_together-requires-2 : goal.run_together-requires-2
run_together-requires-2 c = λ k lt. path_kept (path_at c.args.paths.now k) _ (c.requires k lt) (c.run_together.ensures.kept k lt)

pub loop-k-init : goal.loop-k-init
loop-k-init c =
    let first = c.args.paths.now in
    record {
      marked = c.run_together-2.ensures.run first (c.run_together.ensures.run first
          (marked_none first _ _ c.told-paths c.told-samples c.none_done-done.ensures.len c.none_done-done.ensures.none));
      kept = kept_then _ _ _ c.run_together.ensures.kept c.run_together-2.ensures.kept;
      run = λ i lt. absurd (omega (arith, lt));
    }

pub run_rest-requires-clause-path : goal.run_rest-requires-clause-path
run_rest-requires-clause-path c = let k = c.loop-k.k in let lt = c.loop-k-test.true in
    path_kept (path_at c.args.paths.now k) _ (c.requires k lt) (c.loop-k.invariant.kept k lt)

pub loop-k-preserved : goal.loop-k-preserved
loop-k-preserved c =
    let v = c.loop-k.invariant in
    let e = c.run_rest.ensures in
    record {
      marked = e.run c.args.paths.now v.marked;
      kept = kept_then _ _ _ v.kept e.kept;
      run = below_more _ _ (λ i lt. e.others i (v.run i lt)) e.here;
    }

pub returns : goal.returns
returns c = λ k lt. c.loop-k.invariant.marked.run k lt (c.loop-k.invariant.run k (omega (arith, lt)))
