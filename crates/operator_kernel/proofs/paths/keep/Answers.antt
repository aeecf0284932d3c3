use Rattle.std.proofs.Common.{refl, SFits, w32, rules}
use Rattle.std.proofs.lemmas.Int.{to_z-of_z}
use Rattle.operator_kernel.specs.Paths.{path_at}
use Rattle.operator_kernel.proofs.Marks.{kept_set, lane_run, marked_kept, marked_next}
use Rattle.operator_kernel.proofs.paths.keep.Goals as goal

pub returns-clause-run : goal.returns-clause-run
returns-clause-run c = λ first m h.
    let k = c.args.k in
    let lt = c.requires.k in
    let e = marked_kept c.args.done.now first c.args.paths.now c.args.samples.now k m lt in
    let fb : SFits w32 c.args.before_last = search rules in
    let fl : SFits w32 c.args.last = search rules in
    simp to_z-of_z (marked_next c.args.done.now first c.args.paths.now c.args.samples.now k _ _ m lt
    (lane_run (path_at first k) (path_at c.args.paths.now k) c.args.rows.now c.args.lane _ _ _ h e.0 e.1 c.lane_of.ensures.len c.lane_of.ensures.sample))

pub returns-clause-kept : goal.returns-clause-kept
returns-clause-kept c = kept_set c.args.paths.now c.args.k _ c.told-paths c.requires.k refl refl
