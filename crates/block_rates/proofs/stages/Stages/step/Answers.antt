use Rattle.std.proofs.Common.{◌∙◌, sym}
use Rattle.block_rates.proofs.StageTurns.{at_end, at_move}
use Rattle.block_rates.proofs.stages.Stages.step.Goals as goal

pub returns-then-is_at_target-clause-stands : goal.returns-then-is_at_target-clause-stands
returns-then-is_at_target-clause-stands g c = λ laws stages start k off h.
    let there = sym c.is_at_target.ensures ∙ c.if-is_at_target.true in
    rw c.next-self.ensures
    (at_end g.S.Segment.motion laws start stages k off _ _ _ _ _ _ h c.segment-segment.result _ c.segment-segment.ensures c.stepped-next.ensures.value there)

pub returns-else-is_at_target-clause-stands : goal.returns-else-is_at_target-clause-stands
returns-else-is_at_target-clause-stands g c = λ laws stages start k off h.
    let there = sym c.is_at_target.ensures ∙ c.if-is_at_target.false in
    at_move g.S.Segment.motion laws start stages k off _ _ _ _ _ _ h c.segment-segment.result _ c.segment-segment.ensures c.stepped-next.ensures.value there
