use Rattle.std.proofs.Common.{◌≡◌, ◌+◌, ◌<◌, length, ap, sym, ◌∙◌, arith}
use Rattle.schedule_core.specs.Core.{Core, step, Take}
use Rattle.schedule_core.proofs.Worlds.{one_more, take_one, take_none, settles, one_waits, none_waits}
use Rattle.schedule_core.proofs.world.World.settle.Goals as goal

pub loop-count-preserved : goal.loop-count-preserved
loop-count-preserved c =
    let before : Core = c.loop-count.self in
    let some : 0 < length before.waiting = one_waits c.in_ok-take.field-0 _ c.in_ok-take.ensures.some c.if-branch.true in
    let fewer : length c.take.new.self.waiting + 1 ≡ length before.waiting =
    ap (λ (d : Core). length d.waiting + 1) c.in_ok-take.ensures.taken ∙ sym (take_one before some) in
    record {
      counted = omega (arith, fewer, c.loop-count.invariant.counted);
      legal = c.in_ok-take.ensures.legal;
      taken = c.in_ok-take.ensures.taken ∙ ap (λ (d : Core). step d Take) c.loop-count.invariant.taken ∙ sym (one_more c.args.self.now c.loop-count.count);
    }

pub returns-clause-settled : goal.returns-clause-settled
returns-clause-settled c =
    let before : Core = c.loop-count.self in
    let none : length before.waiting ≡ 0 = none_waits c.in_ok-take.field-0 _ c.in_ok-take.ensures.some c.if-branch.false in
    c.in_ok-take.ensures.taken
    ∙ take_none before none
    ∙ c.loop-count.invariant.taken
    ∙ settles c.args.self.now c.loop-count.count (omega (arith, none, c.loop-count.invariant.counted))
