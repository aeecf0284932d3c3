use Rattle.command_set.proofs.Reading.{unique}
use Rattle.command_set.proofs.read.texts_are_unique.Goals as goal

pub returns : goal.returns
returns c = unique
