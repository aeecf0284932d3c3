use Rattle.std.proofs.Common.{◌≡◌, replicate, rules, arith}
use Rattle.schedule_core.specs.Fields.{fresh_mark}
use Rattle.schedule_core.proofs.Worlds.{opens, determined, stands_for}
use Rattle.schedule_core.proofs.world.World.new.Goals as goal

pub invariant_of-result : goal.invariant_of-result
invariant_of-result c =
    let marks : c.in_ok-marks.marks.items ≡ replicate c.args.ends fresh_mark = search rules in
    rw (c.new-3.ensures.items, c.new-4.ensures.items) (
      c.requires.places.1,
      stands_for _ _ _ _ _ _ _ (opens c.args.places c.args.ends c.in_ok-marks.marks.items c.in_ok-instrument.instrument marks
          c.in_ok-instrument.ensures),
      λ k d below. absurd (omega (arith, below)),
    )

pub returns : goal.returns
returns c =
    let marks : c.in_ok-marks.marks.items ≡ replicate c.args.ends fresh_mark = search rules in
    record {
      opening = rw (c.new-3.ensures.items, c.new-4.ensures.items)
          (determined _ _ _ _ _ _ _ (opens c.args.places c.args.ends c.in_ok-marks.marks.items c.in_ok-instrument.instrument marks c.in_ok-instrument.ensures));
    }
