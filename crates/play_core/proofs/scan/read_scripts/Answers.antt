use Rattle.std.proofs.Common.{◌≡◌, ◌≤◌, ◌+◌, [], ◌∷◌, length, length-append, ◌∙◌, sym, ap, arith}
use Rattle.turns.specs.Turns.{many_commands}
use Rattle.play_core.proofs.Scans.{next_read, all_read, refused_tells, refused_cause, count_pushed, below_pushed, AreReadOf}
use Rattle.play_core.proofs.scan.read_scripts.Goals as goal

pub returns-in-Err-read_next-clause-tells : goal.returns-in-Err-read_next-clause-tells
returns-in-Err-read_next-clause-tells g c =
    refused_tells c.in-Err-read_next.why (g.S.Shelf.files c.args.shelf.now) c.args.blocks c.args.names.now c.loop-name.name-index c.name-item.result
    c.deref.result.now c.loop-name.scripts.items c.loop-name.totals
    (omega (arith, c.loop-name-test.true)) c.name-item.is c.deref.ensures c.loop-name.invariant.read
    (rw (← c.loop-name.invariant.files) c.in-Err-read_next.ensures.tells)

pub returns-in-Err-read_next-clause-cause : goal.returns-in-Err-read_next-clause-cause
returns-in-Err-read_next-clause-cause g c =
    refused_cause c.in-Err-read_next.why (g.S.Shelf.files c.args.shelf.now) c.args.blocks c.args.names.now c.loop-name.name-index c.loop-name.totals.scripts
    c.name-item.result c.deref.result.now c.loop-name.scripts.items c.loop-name.totals _ _
    (omega (arith, c.loop-name-test.true)) c.name-item.is c.deref.ensures c.loop-name.invariant.number c.loop-name.invariant.read
    (rw (← c.loop-name.invariant.files, ← c.loop-name.invariant.reading) c.in-Err-read_next.ensures.cause)

pub loop-name-preserved : goal.loop-name-preserved
loop-name-preserved g c =
    let i = c.loop-name.invariant in
    let e = c.in-Ok-read_next.ensures in
    record {
      number = e.scripts ∙ ap (λ n. n + 1) i.number;
      count = omega (arith, ap length c.in-Ok-push.ensures.items, length-append c.loop-name.scripts.items (c.in-Ok-read_next.script ∷ []), i.count);
      read = next_read (g.S.Shelf.files c.args.shelf.now) c.args.blocks c.args.names.now c.loop-name.name-index c.name-item.result c.deref.result.now
          c.loop-name.scripts.items c.push.new.self.items
          c.in-Ok-read_next.script c.loop-name.totals c.read_next.new.totals (omega (arith, c.loop-name-test.true)) c.name-item.is c.deref.ensures
          c.in-Ok-push.ensures.items i.read
          (rw (← i.files) e.next);
      commands = e.few ∙ ap (λ n. n + length c.in-Ok-read_next.script) i.commands ∙ sym (count_pushed c.loop-name.scripts.items c.in-Ok-read_next.script)
          ∙ ap many_commands (sym c.in-Ok-push.ensures.items);
      few = e.commands;
      short = e.bytes;
      below = rw c.in-Ok-push.ensures.items (below_pushed c.args.blocks c.loop-name.scripts.items c.in-Ok-read_next.script i.below e.below);
      files = e.files ∙ i.files;
      failed = e.failed ∙ i.failed;
      reading = e.kept ∙ i.reading;
      writing = e.writing ∙ i.writing;
    }

pub returns-clause-plans : goal.returns-clause-plans
returns-clause-plans g c =
    all_read (g.S.Shelf.files c.args.shelf.now) c.args.blocks c.args.names.now c.loop-name.name-index c.loop-name.scripts.items c.loop-name.totals
    (omega (arith, c.loop-name-test.false)) c.loop-name.invariant.read
