use Rattle.port.proofs.Receiving.{new_used}
use Rattle.port.proofs.port.Port.new.Goals as goal

pub returns-in-Ok-clause-used : goal.returns-in-Ok-clause-used
returns-in-Ok-clause-used g c = new_used c.in-Ok.reader _ c.in-Ok.ensures
