use Rattle.std.proofs.Common.{◌≡◌, ◌<◌, ◌≤◌, ℕ, true}
use Rattle.algorithm_bus.specs.Algorithms.{modulates}
use Rattle.algorithm_bus.specs.Audible.{is_kept}
use Rattle.algorithm_bus.proofs.audible.reaches.Given as goal

abbrev pub invariant-loop-k : goal.invariant-loop-k
invariant-loop-k l = (to : ℕ) → 1 ≤ to → to ≤ l.k → modulates l.algorithm l.operator to ≡ true → is_kept l.kept to ≡ true → ⊥
