use Rattle.std.proofs.Common.{◌+◌}
use Rattle.turns.proofs.Beginning.{each_due}
use Rattle.turns.proofs.tests.play.Goals as goal

pub play_scripts-journal-requires-clause-due : goal.play_scripts-journal-requires-clause-due
play_scripts-journal-requires-clause-due g c κs within = each_due (c.args.last + 1) c.in_ok-players.players.items c.args.scripts.items
    c.in_ok-players.ensures.plans c.requires.due
