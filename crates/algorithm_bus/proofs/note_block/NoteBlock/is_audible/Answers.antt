use Rattle.std.proofs.Common.{◌≡◌, ◌≤◌, ◌∙◌, ap, sym, true, arith}
use Rattle.operator_kernel.specs.declared.OpBlock.{OpBlock}
use Rattle.operator_kernel.specs.Operator.{silent}
use Rattle.algorithm_bus.specs.Algorithms.{is_carrier}
use Rattle.algorithm_bus.specs.NoteBlocks.{block_input}
use Rattle.algorithm_bus.proofs.Inaudible.{no_output}
use Rattle.algorithm_bus.proofs.note_block.NoteBlock.is_audible.Goals as goal

pub returns-clause-silent : goal.returns-clause-silent
returns-clause-silent c = λ e. no_output (block_input c.args.self.now) c.args.self.now.algorithm_in_range (c.has_audible_carrier.ensures.silent e)

pub returns-clause-whatever_state : goal.returns-clause-whatever_state
returns-clause-whatever_state c = λ e p ea eo.
    let range = c.args.self.now.algorithm_in_range in
    no_output p (omega (arith, ea, range)) (λ o low high carrier. ap (λ f. silent (f o)) eo
    ∙ c.has_audible_carrier.ensures.silent e o low high (ap (λ a. is_carrier a o) (sym ea) ∙ carrier))
