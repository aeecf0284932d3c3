use Rattle.std.proofs.Common.{◌+◌, ◌-◌, ◌*◌, length}
use Rattle.players.proofs.together.+halves.Given as goal

abbrev pub decreases-play_all : goal.decreases-play_all
decreases-play_all g l = 4 * length l.players.now

abbrev pub decreases-play_both : goal.decreases-play_both
decreases-play_both g l = 4 * (length l.first.now + length l.second.now) - 1

abbrev pub decreases-play_both-join_mut+arg2 : goal.decreases-play_both-join_mut+arg2
decreases-play_both-join_mut+arg2 g l = 4 * length l.first.now + 1

abbrev pub decreases-play_both-join_mut+arg3 : goal.decreases-play_both-join_mut+arg3
decreases-play_both-join_mut+arg3 g l = 4 * length l.second.now + 1
