use Rattle.std.proofs.Common.{◌∙◌, ap}
use Rattle.generator.specs.Lcg.{next}
use Rattle.generator.proofs.Generating.{begins}
use Rattle.generator.proofs.script.GeneratedScript.new.Goals as goal

pub returns-clause-generated : goal.returns-clause-generated
returns-clause-generated c =
    let b = begins _ c.next_below.new.self.state c.next_below.result (c.next_below.ensures.state
    ∙ ap next c.of_script-lcg.ensures) c.next_below.ensures.value in
    record { state = b.0; due = c.from-due.ensures ∙ b.1 }
