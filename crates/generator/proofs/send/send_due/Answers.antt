use Rattle.std.proofs.Common.{◌≡◌, ℕ, ◌+◌, ◌<◌, ◌≤◌, sym, subst, arith, inl, inr, ap}
use Rattle.std.specs.Prelude.{◌⊎◌}
use Rattle.std.proofs.lemmas.Bool.{cases_lt}
use Rattle.schedule_core.specs.Core.{Core}
use Rattle.generator.specs.Generated.{due}
use Rattle.generator.specs.Playing.{IsSent}
use Rattle.generator.proofs.Sends.{after_send, one_sent}
use Rattle.generator.proofs.send.send_due.Goals as goal

pub send_next-requires-clause-ready : goal.send_next-requires-clause-ready
send_next-requires-clause-ready c =
    let r = c.requires.ready in
    (r.0, (c.loop-script.invariant.sent r.0 r.1).can)

one_past : (seed block count j due_block : ℕ) → due_block ≡ due seed count → due_block ≤ block → ((k : ℕ) → k < count → due seed k < block + 1) → j < count + 1
    → (j < count) ⊎ (count ≤ j) → due seed j < block + 1
one_past seed block count j due_block is low past below (inl inside) = past j inside
one_past seed block count j due_block is low past below (inr last) =
    let same : due seed j ≡ due seed count = ap (due seed) (let e : j ≡ count = omega (arith, below, last) in e) in
    omega (arith, is, low, same)

pub loop-script-preserved : goal.loop-script-preserved
loop-script-preserved c =
    let i = c.loop-script.invariant in
    let e = c.in_ok-send_next.ensures in
    let from : ℕ = c.args.script.now.count in
    let count : ℕ = c.loop-script.script.count in
    record {
      sent = λ seed h.
          let d = i.sent seed h in
          record {
            can = e.can seed d.can;
            sent = subst (λ (w : Core). IsSent c.args.world.now c.args.number seed from c.send_next.new.script.count w) (sym (e.sent seed d.can))
                (subst (λ (n : ℕ). IsSent c.args.world.now c.args.number seed from n (after_send c.loop-script.world c.args.number seed count)) (sym e.count)
                (one_sent c.args.world.now c.loop-script.world c.args.number seed from count i.up d.can.made
                (omega (arith, d.can.room, c.loop-script-test.true)) d.sent));
          };
      generated = λ seed h. e.generated seed (i.generated seed h);
      past = λ seed generated past j below.
          one_past seed c.args.block count j c.loop-script.script.due (i.generated seed generated).due c.if-script-block.true (i.past seed generated past)
          (omega (arith, below, e.count)) (cases_lt j count);
      up = omega (arith, i.up, e.count);
      few = λ low. omega (arith, e.count, c.loop-script-test.true);
    }
