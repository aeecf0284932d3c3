use Rattle.std.proofs.Common.{ℕ, ◌≡◌, ◌*◌}
use Rattle.block_rates.specs.Lfos.{phase_increment, speed_rate, rate_factor}
use Rattle.block_rates.proofs.cycle.phase_increment.Goals as goal

increment_is : (speed rate factor : ℕ) → rate ≡ speed_rate speed → factor ≡ rate_factor rate → 36558 * (rate * factor) ≡ phase_increment speed
unfolding phase_increment
increment_is speed rate factor e f = rw (f, e)

pub returns-clause-value : goal.returns-clause-value
returns-clause-value c = increment_is c.args.speed _ _ c.speed_rate-rate.ensures.value c.rate_factor.ensures.value
