use Rattle.block_rates.proofs.PitchSteps.{pitch_runs}
use Rattle.block_rates.proofs.pitch_envelope.PitchEnvelope.release.Goals as goal

pub returns : goal.returns
returns c = λ s k off h. record { stands = c.release.ensures.stands pitch_runs _ _ _ k off h.stands }
