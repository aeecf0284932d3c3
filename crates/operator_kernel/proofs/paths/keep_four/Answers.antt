use Rattle.std.proofs.Common.{get_or, pos, SFits, w32, arith, rules}
use Rattle.std.proofs.lemmas.Int.{to_z-of_z}
use Rattle.operator_kernel.proofs.Marks.{kept_none, kept_then}
use Rattle.operator_kernel.proofs.paths.keep_four.Goals as goal

pub loop-x-init : goal.loop-x-init
loop-x-init c = record { run = λ first m h. m; kept = kept_none _ }

pub keep-requires-clause-k : goal.keep-requires-clause-k
keep-requires-clause-k c = c.requires.below _ (let f = c.requires.from in let lt = c.loop-x-test.true in omega (arith, f, lt))

pub loop-x-preserved : goal.loop-x-preserved
loop-x-preserved c =
    let v = c.loop-x.invariant in
    let fb : SFits w32 (get_or c.args.before_last.now c.loop-x.x (pos 0)) = search rules in
    let fl : SFits w32 (get_or c.args.last.now c.loop-x.x (pos 0)) = search rules in
    let run = simp to_z-of_z at c.keep.ensures.run in
    record {
      run = λ first m h. run first (v.run first m h) (h c.loop-x.x c.loop-x-test.true);
      kept = kept_then _ _ _ v.kept c.keep.ensures.kept;
    }

pub returns : goal.returns
returns c = record { run = c.loop-x.invariant.run; kept = c.loop-x.invariant.kept }
