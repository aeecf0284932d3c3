use Rattle.std.proofs.Common.{ℕ, ◌≡◌, true, false, get_or, sym, ◌∙◌, rules}
use Rattle.operator_kernel.proofs.Marks.{kept_none, kept_set, marked_next, alone_run, done_here, done_stays}
use Rattle.operator_kernel.proofs.paths.run_rest.Goals as goal

pub returns-clause-run : goal.returns-clause-run
returns-clause-run c = λ first m.
    let k = c.args.k in
    let left : get_or c.args.done.now k false ≡ false = search rules in
    marked_next c.args.done.now first c.args.paths.now c.args.samples.now k _ _ m c.requires.k
    (alone_run c.args.done.now first c.args.paths.now c.args.samples.now k _ _ m c.requires.k left c.run_alone.ensures)

pub returns-clause-kept : goal.returns-clause-kept
returns-clause-kept c = kept_set c.args.paths.now c.args.k _ c.told-paths c.requires.k c.run_alone.ensures.op c.run_alone.ensures.feedback

pub returns-clause-here : goal.returns-clause-here
returns-clause-here c = done_here c.args.done.now c.args.k c.told-done c.requires.k

pub returns-clause-others : goal.returns-clause-others
returns-clause-others c = λ x t. done_stays c.args.done.now c.args.k x c.told-done c.requires.k t
