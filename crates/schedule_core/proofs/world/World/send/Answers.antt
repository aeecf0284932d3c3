use Rattle.std.proofs.Common.{◌≡◌, ◌<◌, length, refl, ap, arith, subst, set}
use Rattle.std.specs.Prelude.{Ok, Err}
use Rattle.std.proofs.lemmas.List.Elements.{All-push}
use Rattle.command_set.specs.declared.entry.Entry.{Entry}
use Rattle.command_set.specs.Command.{IsInRange, content}
use Rattle.schedule_core.specs.declared.world_refusal.WorldRefusal.TheVariants.{Full}
use Rattle.schedule_core.specs.Core.{Core, Send, step}
use Rattle.schedule_core.specs.Fields.{core_of}
use Rattle.schedule_core.specs.World.{HasSent}
use Rattle.schedule_core.proofs.Worlds.{accepted, turned_away, how_many, stands_for, determined}
use Rattle.schedule_core.proofs.world.World.send.Goals as goal

pub invariant_of-self : goal.invariant_of-self
invariant_of-self c =
    let w = c.self.inside in
    let v : Core = core_of w.places w.waiting.items w.journal.items w.blocks w.marks.items in
    let full : length w.waiting.items ≡ w.places = omega (arith, w.waiting.ok, c.len.ensures, c.if-len-self.true) in
    let below : c.args.script < length w.marks.items = omega (
      arith,
      w.marks.ok,
      c.requires.script,
      c.self.invariant.1.ends,
      ap (λ (d : Core).
          length d.scripts) c.self.view_is,
    ) in
    let t = turned_away w.places w.waiting.items _ _ w.marks.items _ v c.args.script c.args.sent_at c.args.command c.index-mark.result.now c.self.invariant.1
    full below c.index-mark.ensures in
    (c.self.invariant.0, rw c.refuse.ensures (stands_for _ _ _ _ _ _ _ t.1), c.self.invariant.2)

pub returns-then-len-self-clause-sent : goal.returns-then-len-self-clause-sent
returns-then-len-self-clause-sent c =
    let w = c.self.inside in
    let v : Core = core_of w.places w.waiting.items w.journal.items w.blocks w.marks.items in
    let full : length w.waiting.items ≡ w.places = omega (arith, w.waiting.ok, c.len.ensures, c.if-len-self.true) in
    let below : c.args.script < length w.marks.items = omega (
      arith,
      w.marks.ok,
      c.requires.script,
      c.self.invariant.1.ends,
      ap (λ (d : Core).
          length d.scripts) c.self.view_is,
    ) in
    let t = turned_away w.places w.waiting.items _ _ w.marks.items _ v c.args.script c.args.sent_at c.args.command c.index-mark.result.now c.self.invariant.1
    full below c.index-mark.ensures in
    let now : core_of w.places w.waiting.items w.journal.items w.blocks (set w.marks.items c.args.script c.refuse.result) ≡ step v
    (Send c.args.script c.args.sent_at (content c.args.command)) =
    rw c.refuse.ensures (determined _ _ _ _ _ _ _ t.1) in
    subst (λ (d : Core). HasSent d c.args.script c.args.sent_at c.args.command (Err (Full c.args.command))
    (core_of w.places w.waiting.items w.journal.items w.blocks (set w.marks.items c.args.script c.refuse.result)))
    c.self.view_is (t.0, refl, now)

pub returns-then-len-self-clause-legal : goal.returns-then-len-self-clause-legal
returns-then-len-self-clause-legal c = (invariant_of-self c).1.legal

pub invariant_of-self-in-Ok : goal.invariant_of-self-in-Ok
invariant_of-self-in-Ok c =
    let w = c.self.inside in
    let v : Core = core_of w.places w.waiting.items w.journal.items w.blocks w.marks.items in
    let room : length w.waiting.items < w.places = omega (
      arith,
      w.waiting.ok,
      c.self.invariant.1.legal.queued.room,
      how_many c.self.invariant.1,
      c.len.ensures,
      c.if-len-self.false,
    ) in
    let below : c.args.script < length w.marks.items = omega (
      arith,
      w.marks.ok,
      c.requires.script,
      c.self.invariant.1.ends,
      ap (λ (d : Core).
          length d.scripts) c.self.view_is,
    ) in
    let a = accepted w.places w.waiting.items _ _ w.marks.items _ v c.args.script c.args.sent_at c.args.command c.index-mark.result.now c.self.invariant.1 room
    below c.index-mark.ensures in
    rw (c.in-Ok.ensures.items, c.accept.ensures) (
      c.self.invariant.0,
      stands_for _ _ _ _ _ _ _ a.2,
      All-push (λ (e : Entry). IsInRange (content e.command)) w.waiting.items _ c.self.invariant.2 c.requires.range,
    )

pub returns-in-Ok-clause-sent : goal.returns-in-Ok-clause-sent
returns-in-Ok-clause-sent c =
    let w = c.self.inside in
    let v : Core = core_of w.places w.waiting.items w.journal.items w.blocks w.marks.items in
    let room : length w.waiting.items < w.places = omega (
      arith,
      w.waiting.ok,
      c.self.invariant.1.legal.queued.room,
      how_many c.self.invariant.1,
      c.len.ensures,
      c.if-len-self.false,
    ) in
    let below : c.args.script < length w.marks.items = omega (
      arith,
      w.marks.ok,
      c.requires.script,
      c.self.invariant.1.ends,
      ap (λ (d : Core).
          length d.scripts) c.self.view_is,
    ) in
    let a = accepted w.places w.waiting.items _ _ w.marks.items _ v c.args.script c.args.sent_at c.args.command c.index-mark.result.now c.self.invariant.1 room
    below c.index-mark.ensures in
    let now : core_of w.places c.push_back.new.self.items w.journal.items w.blocks (set w.marks.items c.args.script c.accept.result) ≡ step v
    (Send c.args.script c.args.sent_at (content c.args.command)) =
    rw (c.in-Ok.ensures.items, c.accept.ensures) (determined _ _ _ _ _ _ _ a.2) in
    subst (λ (d : Core). HasSent d c.args.script c.args.sent_at c.args.command (Ok c.index-mark.result.now.accepted)
    (core_of w.places c.push_back.new.self.items w.journal.items w.blocks (set w.marks.items c.args.script c.accept.result)))
    c.self.view_is (a.0, a.1, now)

pub returns-in-Ok-clause-legal : goal.returns-in-Ok-clause-legal
returns-in-Ok-clause-legal c = (invariant_of-self-in-Ok c).1.legal
