use Rattle.std.proofs.Common.{◌≡◌, ◌+◌, List, length}
use Rattle.std.specs.Prelude.{All}
use Rattle.lateness.specs.Late.{AllBelow}
use Rattle.script_plan.specs.Plan.{PlannedData, due_blocks}
use Rattle.turns.proofs.tests.scripts_at.Given as goal

abbrev pub invariant-loop-key : goal.invariant-loop-key
invariant-loop-key l = record {
  many : length l.scripts.items ≡ l.key;
  due : All (λ (script : List PlannedData). AllBelow (l.last + 1) (due_blocks script)) l.scripts.items;
}
