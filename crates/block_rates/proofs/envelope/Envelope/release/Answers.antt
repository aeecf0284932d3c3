use Rattle.block_rates.proofs.LevelSteps.{level_runs}
use Rattle.block_rates.proofs.envelope.Envelope.release.Goals as goal

pub returns : goal.returns
returns c = λ s k off h. record { stands = c.release.ensures.stands level_runs _ _ _ k off h.stands }
