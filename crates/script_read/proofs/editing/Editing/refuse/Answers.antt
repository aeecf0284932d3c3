use Rattle.script_read.proofs.EditOutcomes.{stops_bad}
use Rattle.script_read.proofs.editing.Editing.refuse.Goals as goal

pub returns : goal.returns
returns c = λ blocks room lines b order. stops_bad c.args.self.now blocks room lines c.refused.result b order.few c.refused.ensures
