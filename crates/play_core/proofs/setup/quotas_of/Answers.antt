use Rattle.std.proofs.Common.{length, ap, ◌∙◌, arith}
use Rattle.play_core.proofs.Setups.{lengths_more, one_fits}
use Rattle.play_core.proofs.setup.quotas_of.Goals as goal

pub overflow_cast-len : goal.overflow_cast-len
overflow_cast-len c =
    let below = c.loop-script-test.true in
    let fits = one_fits c.args.scripts.now c.loop-script.script-index c.script-item.result (omega (arith, below)) c.script-item.is in
    omega (arith, fits, c.len.ensures.len, c.requires)
