use Rattle.std.proofs.Common.{◌≡◌, ◌<◌, length, rules, ap, sym, subst, ◌∙◌, arith}
use Rattle.std.proofs.lemmas.List.{take_more}
use Rattle.port.specs.declared.fed.Fed.{Fed}
use Rattle.port.specs.declared.fed.PortStop.{PortStop}
use Rattle.port.specs.Keeping.{KeepsAt}
use Rattle.port.specs.declared.fed.PortStop.TheVariants.{All}
use Rattle.port.proofs.Feeds.{reached_more, goes_on, received_to}
use Rattle.port.proofs.Sending.{sends_more}
use Rattle.port.proofs.port.Port.feed.Goals as goal

pub returns-then-ne-2-clause-fed : goal.returns-then-ne-2-clause-fed
returns-then-ne-2-clause-fed g c =
    let before = c.loop-byte.invariant in
    let inside : c.loop-byte.byte-index < length c.args.bytes.now = omega (arith, c.loop-byte-test.true) in
    received_to _ _ _ _ _ _ _ _ _ _ _
    (reached_more _ _ _ _ _ _ _ _ _ c.args.bytes.now c.loop-byte.byte-index _ _ _ _ _ c.use_byte.result c.and-fed.result before.2.stop before.1
    (take_more c.args.bytes.now c.loop-byte.byte-index 0 inside) c.use_byte.ensures.one c.use_byte.ensures.received c.and-fed.ensures)

pub loop-byte-preserved : goal.loop-byte-preserved
loop-byte-preserved g c =
    let before = c.loop-byte.invariant in
    let inside : c.loop-byte.byte-index < length c.args.bytes.now = omega (arith, c.loop-byte-test.true) in
    let all : c.and-fed.result.stop ≡ All = search rules in (
      c.use_byte.ensures.curve ∙ before.0,
      reached_more _ _ _ _ _ _ _ _ _ c.args.bytes.now c.loop-byte.byte-index _ _ _ _ _ c.use_byte.result c.and-fed.result before.2.stop before.1
          (take_more c.args.bytes.now c.loop-byte.byte-index 0 inside) c.use_byte.ensures.one c.use_byte.ensures.received c.and-fed.ensures,
      goes_on _ _ (let P : PortStop → Type 0 = λ s. KeepsAt s c.use_byte.new.self.kept in
          subst P (sym (ap (λ (f : Fed). f.stop) c.and-fed.ensures)) c.use_byte.ensures.keeps) all,
      sends_more _ _ _ before.3 c.use_byte.ensures.ranges,
    )

pub returns-then-ne-2-clause-ranges : goal.returns-then-ne-2-clause-ranges
returns-then-ne-2-clause-ranges g c = sends_more _ _ _ c.loop-byte.invariant.3 c.use_byte.ensures.ranges
