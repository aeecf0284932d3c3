use Rattle.take_files.proofs.Laws.{orders_unique}
use Rattle.take_files.proofs.read.orders_are_unique.Goals as goal

pub returns : goal.returns
returns c = orders_unique
