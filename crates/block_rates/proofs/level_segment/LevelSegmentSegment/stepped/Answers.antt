use Rattle.std.proofs.Common.{ℕ, ◌≡◌, ◌<◌, ◌+◌, ◌-◌, ◌*◌, ◌/◌, ◌∙◌, ap, sym, min, max}
use Rattle.block_rates.specs.declared.level_segment.LevelSegment.{LevelSegment}
use Rattle.block_rates.specs.Levels.{go}
use Rattle.block_rates.proofs.LevelSteps.{rising_one, falling_one}
use Rattle.block_rates.proofs.level_segment.LevelSegmentSegment.stepped.Goals as goal

pub returns-then-self-level-clause-value : goal.returns-then-self-level-clause-value
returns-then-self-level-clause-value c = c.max.ensures ∙ ap (max c.args.self.target) c.saturating_sub.ensures ∙ sym (falling_one _ _ c.if-self-level.true)

rise_is : (s : LevelSegment) (x y r : ℕ) → x < s.target → y ≡ max x 112459776 → r ≡ min s.target (y + (285212672 - y) / 16777216 * s.increment) → r ≡ go s x 1
rise_is s x y r lt e f = f ∙ rw e (sym (rising_one s x lt))

pub returns-else-self-level-clause-value : goal.returns-else-self-level-clause-value
returns-else-self-level-clause-value c = rise_is c.args.self _ _ _ c.if-self-level.false c.max-from.ensures c.min.ensures
