use Rattle.std.proofs.Common.{◌≡◌}
use Rattle.generator.specs.Generated.{script_seed}
use Rattle.generator.specs.Scripts.{IsGenerated}
use Rattle.generator.proofs.Lines.{lines_of}
use Rattle.generator.proofs.text.script_text.Given as goal

abbrev pub invariant-loop-turn : goal.invariant-loop-turn
invariant-loop-turn l = record {
  text : l.text.items ≡ lines_of (script_seed l.seed l.script) l._turn;
  generated : IsGenerated (script_seed l.seed l.script) l.generated;
  count : l.generated.count ≡ l._turn;
}
