-- How a script that is being generated stands for the numbers that were generated so far.
use Rattle.std.specs.Prelude.{ℕ, ◌≡◌, ◌+◌, ◌<◌, ◌≤◌}
use Rattle.generator.specs.Lcg.{state}
use Rattle.generator.specs.Generated.{numbers_before, due}
use Rattle.generator.specs.declared.script.GeneratedScript.{GeneratedScript}

-- so many commands were generated, and the block at which the next one is due
pub record IsGenerated (seed : ℕ) (script : GeneratedScript) : Type 0 where
  pub state : script.lcg.state ≡ state seed (numbers_before seed script.count + 1)
  pub due : script.due ≡ due seed script.count

-- of so many commands the first i are those that are due before a block
pub record AreBefore (seed commands block i : ℕ) : Type 0 where
  pub count : i ≤ commands
  pub past : (j : ℕ) → j < i → due seed j < block
  pub rest : i < commands → block ≤ due seed i
