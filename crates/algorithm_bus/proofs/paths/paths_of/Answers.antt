use Rattle.std.proofs.Common.{ℕ, ◌≡◌, ◌<◌, ◌∙◌, length, get_or, ap, length-set, arith}
use Rattle.std.proofs.lemmas.List.{get_or_default}
use Rattle.dx_tables.proofs.Loops.{set_more}
use Rattle.operator_kernel.specs.declared.FeedbackPath.{FeedbackPath}
use Rattle.operator_kernel.specs.Paths.{IsPath, no_path}
use Rattle.algorithm_bus.specs.declared.note_block.NoteBlock.{NoteBlock}
use Rattle.algorithm_bus.specs.NoteBlocks.{feedback_path}
use Rattle.algorithm_bus.proofs.paths.paths_of.Goals as goal

pub loop-k-preserved : goal.loop-k-preserved
loop-k-preserved c =
    let v = c.loop-k.invariant in
    let k = c.loop-k.k in
    let bs = c.args.blocks.now in
    let lt = c.loop-k-test.true in
    let l : k < length c.loop-k.paths = omega (arith, v.len, lt) in
    let b : k < length bs = omega (arith, c.told-blocks, lt) in
    record {
      len = simp length-set v.len;
      value = λ i d il. set_more (λ n p. p ≡ feedback_path (get_or bs n d)) c.loop-k.paths k c.path.result no_path l (λ n nl. v.value n d nl)
          (c.path.ensures.value ∙ ap feedback_path (get_or_default bs k c.index-blocks-k.result d b)) i il;
      range = set_more (λ n p. IsPath p) c.loop-k.paths k c.path.result no_path l v.range c.path.ensures.range;
    }
