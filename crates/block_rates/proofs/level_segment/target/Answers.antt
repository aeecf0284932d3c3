use Rattle.std.proofs.Common.{ℕ, ◌≡◌, ◌+◌, ◌-◌, ◌*◌, ◌/◌, max, arith}
use Rattle.block_rates.specs.Levels.{target_level}
use Rattle.block_rates.proofs.level_segment.target.Goals as goal

target_is : (l r o f s m : ℕ) → r ≡ l → f ≡ r / 2 → s ≡ 64 * f + o - 4256 → m ≡ max s 16 → 65536 * m ≡ 65536 * max 16 (64 * (l / 2) + o - 4256)
target_is l r o f s m a b d e = omega arith

pub returns-clause-value : goal.returns-clause-value
unfolding target_level
returns-clause-value c = target_is _ _ _ _ _ _ c.level.ensures.value c.from.ensures c.saturating_sub.ensures c.max.ensures
