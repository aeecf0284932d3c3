use Rattle.std.proofs.Common.{map, string_bytes, arith}
use Rattle.outside.specs.Sure.{sure_faults, sure_files}
use Rattle.outside.specs.Snapshot.{snapshot}
use Rattle.play_core.proofs.NeverFailing.{stopped_never_failing, some_places}
use Rattle.play_core.proofs.never_failing.play_never_failing.Goals as goal

pub returns-clause-stopped : goal.returns-clause-stopped
returns-clause-stopped g c = λ three.
    stopped_never_failing (map string_bytes c.args.words.now)
    (snapshot (sure_files c.args.shelf.now) (sure_faults c.args.shelf.now) (sure_faults c.args.shelf.now) (g.O.Out.written c.args.out.now)
    (g.O.Out.faults c.args.out.now))
    (snapshot (sure_files c.play_main.new.shelf) (sure_faults c.play_main.new.shelf) (sure_faults c.play_main.new.shelf) (g.O.Out.written c.play_main.new.out)
    (g.O.Out.faults c.play_main.new.out))
    (λ rose. omega (arith, rose))
    (c.play_main.ensures.stopped three)

pub returns-clause-places : goal.returns-clause-places
returns-clause-places g c = λ five. some_places (map string_bytes c.args.words.now) (sure_files c.args.shelf.now) (c.play_main.ensures.places five)
