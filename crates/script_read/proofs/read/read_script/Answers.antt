use Rattle.script_read.proofs.Plans.{plan_ok, plan_refused, plan_many, plan_early}
use Rattle.script_read.proofs.read.read_script.Goals as goal

pub returns-clause-ok : goal.returns-clause-ok
returns-clause-ok g c = plan_ok c.read_any.result c.args.bytes.now c.args.bounds.blocks c.args.bounds.room c.read_any.ensures

pub returns-clause-refused : goal.returns-clause-refused
returns-clause-refused g c = λ at why. plan_refused c.read_any.result c.args.bytes.now c.args.bounds.blocks c.args.bounds.room at why c.read_any.ensures

pub returns-clause-many : goal.returns-clause-many
returns-clause-many g c = plan_many c.read_any.result c.args.bytes.now c.args.bounds.blocks c.args.bounds.room c.read_any.ensures

pub returns-clause-early : goal.returns-clause-early
returns-clause-early g c = plan_early c.read_any.result c.args.bytes.now c.args.bounds.blocks c.args.bounds.room c.read_any.ensures
