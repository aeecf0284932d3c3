use Rattle.std.proofs.Common.{◌∙◌, ◌*◌, ap}
use Rattle.block_rates.specs.Pitches.{pitch_increment}
use Rattle.block_rates.proofs.pitch_segment.increment.Goals as goal

pub returns-clause-value : goal.returns-clause-value
unfolding pitch_increment
returns-clause-value c = ap (λ n. n * 1143) (c.from.ensures ∙ c.pitch_rate.ensures.value)
