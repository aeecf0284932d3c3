use Rattle.dx_tables.proofs.SinePairs.{pair_read}
use Rattle.dx_tables.proofs.tables.pair_of.Goals as goal

pub returns : goal.returns
returns c =
    let e = c.requires.table.entry c.args.i c.requires.i in
    rw e (pair_read _ c.requires.i)
