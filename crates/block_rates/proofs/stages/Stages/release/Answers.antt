use Rattle.block_rates.proofs.StageTurns.{at_release}
use Rattle.block_rates.proofs.stages.Stages.release.Goals as goal

pub returns-clause-stands : goal.returns-clause-stands
returns-clause-stands g c = λ laws stages start x k off h. at_release g.S.Segment.motion laws start stages k off _ _ _ _ _ x h
