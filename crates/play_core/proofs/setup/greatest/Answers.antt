use Rattle.std.proofs.Common.{◌∙◌, ap, max, arith}
use Rattle.play_core.proofs.Setups.{greatest_more, in_time_more}
use Rattle.play_core.proofs.setup.greatest.Goals as goal

pub loop-script-preserved : goal.loop-script-preserved
loop-script-preserved c =
    let below = c.loop-script-test.true in
    record {
      due = greatest_more c.args.scripts.now c.loop-script.script-index c.loop-script.due c.later-due.result c.script-item.result (omega (arith, below))
          c.script-item.is c.loop-script.invariant.due
          (c.later-due.ensures ∙ ap (max c.loop-script.due) c.last_due.ensures.due);
      within = in_time_more c.args.scripts.now c.loop-script.script-index c.loop-script.due c.later-due.result c.script-item.result (omega (arith, below))
          c.script-item.is c.loop-script.invariant.within
          (c.later-due.ensures ∙ ap (max c.loop-script.due) c.last_due.ensures.due) c.last_due.ensures.plan;
    }
