use Rattle.algorithm_bus.proofs.Gains.{six_gains}
use Rattle.speed.proofs.six.Goals as goal

pub returns : goal.returns
returns c = six_gains _ _ _ _ _ _ c.requires.0 c.requires.1 c.requires.2 c.requires.3 c.requires.4 c.requires.5
