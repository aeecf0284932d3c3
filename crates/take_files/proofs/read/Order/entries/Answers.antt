use Rattle.take_files.proofs.Ordered.{ordered}
use Rattle.take_files.proofs.read.Order.entries.Goals as goal

pub returns-clause-ordered : goal.returns-clause-ordered
returns-clause-ordered c = rw c.deref.ensures.value (ordered _ _ _ c.self.invariant)
