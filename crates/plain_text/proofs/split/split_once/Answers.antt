use Rattle.std.proofs.Common.{sym}
use Rattle.plain_text.proofs.Cuts.{cut_found, cut_missed, rest_whole}
use Rattle.plain_text.proofs.split.split_once.Goals as goal

pub returns-in-Some-clause-cut : goal.returns-in-Some-clause-cut
returns-in-Some-clause-cut c = rw rest_whole ((cut_found c.args.code c.in-Some.at c.args.text.now (sym c.in-Some.ensures)).1)

pub returns-in-None-clause-whole : goal.returns-in-None-clause-whole
returns-in-None-clause-whole c = cut_missed c.args.code c.args.text.now (sym c.in-None.ensures)
