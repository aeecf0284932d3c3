use Rattle.std.proofs.Common.{ℕ, arith}
use Rattle.generator.specs.Generated.{script_seed}
use Rattle.generator.proofs.Blocks.{may_send, next_script}
use Rattle.generator.proofs.send.send_all_due.Goals as goal

pub send_due-requires-clause-ready : goal.send_due-requires-clause-ready
send_due-requires-clause-ready c =
    let r = c.requires.ready in
    let l = c.loop-number in
    let h = l.invariant r.0 r.1 in (
      script_seed r.0 l.number,
      may_send r.0 c.args.commands c.args.block l.number l.scripts c.index-scripts-number.result l.world c.requires.few
          c.loop-number-test.true h,
    )

pub loop-number-preserved : goal.loop-number-preserved
loop-number-preserved c = λ seed first.
    let l = c.loop-number in
    let n : ℕ = c.args.commands in
    let own : ℕ = script_seed seed l.number in
    let h = l.invariant seed first in
    let d = c.index-scripts-number.result in
    let can = may_send seed n c.args.block l.number l.scripts d l.world c.requires.few c.loop-number-test.true h in
    next_script seed n c.args.block l.number l.scripts d c.send_due.new.script l.world c.send_due.new.world c.loop-number-test.true h
    (c.in_ok-send_due.ensures.sent own can)
    (c.in_ok-send_due.ensures.before own can.generated (h.next l.number d (omega arith) c.loop-number-test.true))
    c.in_ok-send_due.ensures.count
