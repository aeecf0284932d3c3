use Rattle.std.proofs.Common.{subst}
use Rattle.std.specs.Prelude.{All}
use Rattle.std.proofs.lemmas.List.Elements.{All-tail}
use Rattle.command_set.specs.declared.entry.Entry.{Entry}
use Rattle.command_set.specs.Command.{IsInRange, content}
use Rattle.schedule_core.proofs.Worlds.{takes, stands_for}
use Rattle.schedule_core.proofs.world.World.take.Goals as goal

pub invariant_of-self-in-Some : goal.invariant_of-self-in-Some
invariant_of-self-in-Some c =
    rw (c.push_reserved.ensures.items, c.in_ok-reserve.ensures.items) (
      c.self.invariant.0,
      stands_for _ _ _ _ _ _ _ (takes _ _ _ _ _ _ _ c.apply.new.self _ c.in-Some.entry c.in-Some.ensures.items c.self.invariant.1 c.apply.ensures),
      All-tail (λ (e : Entry). IsInRange (content e.command)) c.in-Some.entry _
          (subst (All (λ (e : Entry). IsInRange (content e.command))) c.in-Some.ensures.items c.self.invariant.2),
    )

pub returns-in-Some-clause-legal : goal.returns-in-Some-clause-legal
returns-in-Some-clause-legal c = (invariant_of-self-in-Some c).1.legal
