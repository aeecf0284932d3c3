use Rattle.std.proofs.Common.{arith, lt-ltb, rules}
use Rattle.std.proofs.lemmas.Bool.{le-ltb}
use Rattle.song_bank.specs.Event.{quantity_bytes}
use Rattle.song_bank.proofs.event.push_quantity.Goals as goal

pub returns-then-length-lt128 : goal.returns-then-length-lt128
unfolding quantity_bytes
returns-then-length-lt128 c = rw (lt-ltb c.args.length 128 (omega arith)) (search rules)

pub returns-else-length-lt128 : goal.returns-else-length-lt128
unfolding quantity_bytes
returns-else-length-lt128 c = rw (le-ltb c.args.length 128 (omega arith)) (search rules)
