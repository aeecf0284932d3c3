use Rattle.std.proofs.Common.{◌≡◌, false, get_or, ap, sym, rules, arith}
use Rattle.operator_kernel.proofs.Marks.{left_next}
use Rattle.operator_kernel.proofs.paths.with.Goals as goal

pub returns-then-is_live : goal.returns-then-is_live
returns-then-is_live c = λ m.
    let e = c.with_place.ensures in
    left_next c.args.paths.now c.args.done.now c.args.left c.args.k _ m (omega arith)
    (record { below = c.requires.k; left = search rules; live = c.is_live.ensures c.if-is_live.true }) e.len e.first e.here e.others
