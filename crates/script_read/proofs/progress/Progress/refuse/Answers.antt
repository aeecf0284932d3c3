use Rattle.std.proofs.Common.{sym, subst, [], ◌∷◌, ◌++◌}
use Rattle.script_outcome.specs.declared.fault.ScriptFault.{ScriptFault}
use Rattle.script_outcome.specs.declared.fault.ScriptKind.TheVariants as kind
use Rattle.script_read.specs.Lines.{Wrong}
use Rattle.script_read.specs.Outcomes.{outcomes_after}
use Rattle.script_outcome.specs.ReaderAnswer.{Stops}
use Rattle.script_read.proofs.LineOutcomes.{stops_line, wrong_outcomes}
use Rattle.script_read.proofs.progress.Progress.refuse.Goals as goal

pub returns : goal.returns
returns c = λ blocks room lines b order.
    subst (λ (why : ScriptFault). Stops why room (outcomes_after blocks [] (lines ++ Wrong ∷ []))) (sym c.refused.ensures)
    (stops_line c.args.self.now blocks room lines Wrong kind.Line b order.few (wrong_outcomes blocks lines))
