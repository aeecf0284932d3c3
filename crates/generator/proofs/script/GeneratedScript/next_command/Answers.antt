use Rattle.std.proofs.Common.{arith}
use Rattle.generator.proofs.Generating.{goes_on}
use Rattle.generator.proofs.script.GeneratedScript.next_command.Goals as goal

pub returns-clause-generated : goal.returns-clause-generated
returns-clause-generated c = λ seed h.
    let g = goes_on seed c.args.self.now.count _ c.next_below-later.new.self.state c.args.self.now.due c.next_below-later.result
    (c.generate_command-command.ensures.state seed _ h.state) c.next_below-later.ensures.state c.next_below-later.ensures.value h.due in
    record { state = g.0; due = omega (arith, g.1, c.from.ensures) }
