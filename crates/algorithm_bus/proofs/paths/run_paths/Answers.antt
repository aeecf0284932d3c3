use Rattle.std.proofs.Common.{ℕ, [], ◌≡◌, ◌≤◌, ◌<◌, ◌∙◌, length, get_or, ap, sym, subst, refl, length-set, arith}
use Rattle.dx_tables.proofs.Loops.{set_rest}
use Rattle.operator_kernel.specs.declared.FeedbackPath.{FeedbackPath}
use Rattle.operator_kernel.specs.Paths.{IsPathRun, path_at}
use Rattle.algorithm_bus.specs.declared.note_block.NoteBlock.{NoteBlock}
use Rattle.algorithm_bus.specs.NoteBlocks.{feedback_path}
use Rattle.algorithm_bus.proofs.Taken.{taken_next}
use Rattle.algorithm_bus.proofs.paths.run_paths.Goals as goal

pub loop-k-init : goal.loop-k-init
loop-k-init c = record { len = c.told-blocks; done = λ i d e lt. absurd (omega (arith, lt)); rest = λ i d le. refl }

pub loop-k-preserved : goal.loop-k-preserved
loop-k-preserved c =
    let v = c.loop-k.invariant in
    let k = c.loop-k.k in
    let bs = c.args.blocks.now in
    let lt = c.loop-k-test.true in
    let b = c.index-blocks-k.result in
    let p = c.paths_of-paths.ensures.value k b lt ∙ ap feedback_path (sym (v.rest k b (omega arith))) in
    let run = subst (λ x. IsPathRun x (path_at c.run_paths.new.paths k) (get_or c.run_paths.new.samples k [])) p (c.run_paths.ensures k lt) in
    record {
      len = simp length-set v.len;
      done = taken_next bs c.loop-k.blocks c.run_paths.new.samples k _ _ b c.told-blocks v.len lt v.done v.rest refl (c.keep_state.ensures _ run);
      rest = λ i d le. set_rest (λ x. x ≡ get_or bs i d) c.loop-k.blocks k _ d i le (v.rest i d (omega arith));
    }

pub returns : goal.returns
returns c = λ k d e lt. c.loop-k.invariant.done k d e (omega (arith, lt))
