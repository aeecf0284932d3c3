use Rattle.block_rates.proofs.StageTurns.{at_begin}
use Rattle.block_rates.proofs.stages.Stages.new.Goals as goal

pub returns-clause-stands : goal.returns-clause-stands
returns-clause-stands g c = λ stages start a b d e. at_begin g.S.Segment.motion start stages _ _ _ _ a b d e
