use Rattle.std.proofs.Common.{◌∙◌, ap, subst}
use Rattle.operator_kernel.specs.declared.OpBlock.{OpBlock}
use Rattle.operator_kernel.specs.Operator.{feedback_sample}
use Rattle.algorithm_bus.specs.Algorithms.{feedback_operator}
use Rattle.algorithm_bus.specs.Buses.{IsBus}
use Rattle.algorithm_bus.proofs.note_block.NoteBlock.run_routed.Goals as goal

pub returns : goal.returns
returns c = λ p ea eo h. c.run_routed.ensures p ea eo (λ o e.
    let P : OpBlock → Type 0 = λ op. IsBus (feedback_sample op p.feedback p.feedback_state) c.args.fed.now in
    subst P (ap (λ f. f o) eo) (h o (ap feedback_operator ea ∙ e)))
