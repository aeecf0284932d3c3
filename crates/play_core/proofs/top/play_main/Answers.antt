use Rattle.std.proofs.Common.{map, string_bytes, sym}
use Rattle.turns.specs.Written.{HoldsNothing}
use Rattle.play_core.specs.Words.{request_data}
use Rattle.play_core.specs.Run.{NamesFailed}
use Rattle.outside.specs.Snapshot.{snapshot}
use Rattle.play_core.proofs.Clauses.{asked_for, clause_order, clause_blocks, clause_sound, clause_all, clause_played, clause_left, clause_timed, clause_prompt}
use Rattle.play_core.proofs.Clauses.{clause_alone, clause_others, clause_report, clause_unread, clause_fault, clause_limit, clause_judged, clause_places}
use Rattle.play_core.proofs.Clauses.{clause_complete, clause_stopped}
use Rattle.play_core.proofs.top.play_main.Goals as goal

pub returns-in-Some-clause-order : goal.returns-in-Some-clause-order
returns-in-Some-clause-order g c =
    clause_order (map string_bytes c.args.words.now) (request_data c.in-Some.request)
    (snapshot (g.S.Shelf.files c.args.shelf.now) (g.S.Shelf.reading c.args.shelf.now) (g.S.Shelf.writing c.args.shelf.now) (g.O.Out.written c.args.out.now)
    (g.O.Out.faults c.args.out.now))
    (snapshot (g.S.Shelf.files c.play.new.shelf) (g.S.Shelf.reading c.play.new.shelf) (g.S.Shelf.writing c.play.new.shelf) (g.O.Out.written c.play.new.out)
    (g.O.Out.faults c.play.new.out))
    c.play.result (sym c.in-Some.ensures.asked) c.in-Some.ensures.request.differ c.play.ensures.run

pub returns-in-Some-clause-blocks : goal.returns-in-Some-clause-blocks
returns-in-Some-clause-blocks g c =
    clause_blocks (map string_bytes c.args.words.now) (request_data c.in-Some.request)
    (snapshot (g.S.Shelf.files c.args.shelf.now) (g.S.Shelf.reading c.args.shelf.now) (g.S.Shelf.writing c.args.shelf.now) (g.O.Out.written c.args.out.now)
    (g.O.Out.faults c.args.out.now))
    (snapshot (g.S.Shelf.files c.play.new.shelf) (g.S.Shelf.reading c.play.new.shelf) (g.S.Shelf.writing c.play.new.shelf) (g.O.Out.written c.play.new.out)
    (g.O.Out.faults c.play.new.out))
    c.play.result (sym c.in-Some.ensures.asked) c.in-Some.ensures.request.differ c.play.ensures.run

pub returns-in-Some-clause-sound : goal.returns-in-Some-clause-sound
returns-in-Some-clause-sound g c =
    clause_sound (map string_bytes c.args.words.now) (request_data c.in-Some.request)
    (snapshot (g.S.Shelf.files c.args.shelf.now) (g.S.Shelf.reading c.args.shelf.now) (g.S.Shelf.writing c.args.shelf.now) (g.O.Out.written c.args.out.now)
    (g.O.Out.faults c.args.out.now))
    (snapshot (g.S.Shelf.files c.play.new.shelf) (g.S.Shelf.reading c.play.new.shelf) (g.S.Shelf.writing c.play.new.shelf) (g.O.Out.written c.play.new.out)
    (g.O.Out.faults c.play.new.out))
    c.play.result (sym c.in-Some.ensures.asked) c.in-Some.ensures.request.differ c.play.ensures.run

pub returns-in-Some-clause-all : goal.returns-in-Some-clause-all
returns-in-Some-clause-all g c =
    clause_all (map string_bytes c.args.words.now) (request_data c.in-Some.request)
    (snapshot (g.S.Shelf.files c.args.shelf.now) (g.S.Shelf.reading c.args.shelf.now) (g.S.Shelf.writing c.args.shelf.now) (g.O.Out.written c.args.out.now)
    (g.O.Out.faults c.args.out.now))
    (snapshot (g.S.Shelf.files c.play.new.shelf) (g.S.Shelf.reading c.play.new.shelf) (g.S.Shelf.writing c.play.new.shelf) (g.O.Out.written c.play.new.out)
    (g.O.Out.faults c.play.new.out))
    c.play.result (sym c.in-Some.ensures.asked) c.in-Some.ensures.request.differ c.play.ensures.run

pub returns-in-Some-clause-played : goal.returns-in-Some-clause-played
returns-in-Some-clause-played g c =
    clause_played (map string_bytes c.args.words.now) (request_data c.in-Some.request)
    (snapshot (g.S.Shelf.files c.args.shelf.now) (g.S.Shelf.reading c.args.shelf.now) (g.S.Shelf.writing c.args.shelf.now) (g.O.Out.written c.args.out.now)
    (g.O.Out.faults c.args.out.now))
    (snapshot (g.S.Shelf.files c.play.new.shelf) (g.S.Shelf.reading c.play.new.shelf) (g.S.Shelf.writing c.play.new.shelf) (g.O.Out.written c.play.new.out)
    (g.O.Out.faults c.play.new.out))
    c.play.result (sym c.in-Some.ensures.asked) c.in-Some.ensures.request.differ c.play.ensures.run

pub returns-in-Some-clause-left : goal.returns-in-Some-clause-left
returns-in-Some-clause-left g c =
    clause_left (map string_bytes c.args.words.now) (request_data c.in-Some.request)
    (snapshot (g.S.Shelf.files c.args.shelf.now) (g.S.Shelf.reading c.args.shelf.now) (g.S.Shelf.writing c.args.shelf.now) (g.O.Out.written c.args.out.now)
    (g.O.Out.faults c.args.out.now))
    (snapshot (g.S.Shelf.files c.play.new.shelf) (g.S.Shelf.reading c.play.new.shelf) (g.S.Shelf.writing c.play.new.shelf) (g.O.Out.written c.play.new.out)
    (g.O.Out.faults c.play.new.out))
    c.play.result (sym c.in-Some.ensures.asked) c.in-Some.ensures.request.differ c.play.ensures.run

pub returns-in-Some-clause-timed : goal.returns-in-Some-clause-timed
returns-in-Some-clause-timed g c =
    clause_timed (map string_bytes c.args.words.now) (request_data c.in-Some.request)
    (snapshot (g.S.Shelf.files c.args.shelf.now) (g.S.Shelf.reading c.args.shelf.now) (g.S.Shelf.writing c.args.shelf.now) (g.O.Out.written c.args.out.now)
    (g.O.Out.faults c.args.out.now))
    (snapshot (g.S.Shelf.files c.play.new.shelf) (g.S.Shelf.reading c.play.new.shelf) (g.S.Shelf.writing c.play.new.shelf) (g.O.Out.written c.play.new.out)
    (g.O.Out.faults c.play.new.out))
    c.play.result (sym c.in-Some.ensures.asked) c.in-Some.ensures.request.differ c.play.ensures.run

pub returns-in-Some-clause-prompt : goal.returns-in-Some-clause-prompt
returns-in-Some-clause-prompt g c =
    clause_prompt (map string_bytes c.args.words.now) (request_data c.in-Some.request)
    (snapshot (g.S.Shelf.files c.args.shelf.now) (g.S.Shelf.reading c.args.shelf.now) (g.S.Shelf.writing c.args.shelf.now) (g.O.Out.written c.args.out.now)
    (g.O.Out.faults c.args.out.now))
    (snapshot (g.S.Shelf.files c.play.new.shelf) (g.S.Shelf.reading c.play.new.shelf) (g.S.Shelf.writing c.play.new.shelf) (g.O.Out.written c.play.new.out)
    (g.O.Out.faults c.play.new.out))
    c.play.result (sym c.in-Some.ensures.asked) c.in-Some.ensures.request.differ c.play.ensures.run

pub returns-in-Some-clause-alone : goal.returns-in-Some-clause-alone
returns-in-Some-clause-alone g c =
    clause_alone (map string_bytes c.args.words.now) (request_data c.in-Some.request)
    (snapshot (g.S.Shelf.files c.args.shelf.now) (g.S.Shelf.reading c.args.shelf.now) (g.S.Shelf.writing c.args.shelf.now) (g.O.Out.written c.args.out.now)
    (g.O.Out.faults c.args.out.now))
    (snapshot (g.S.Shelf.files c.play.new.shelf) (g.S.Shelf.reading c.play.new.shelf) (g.S.Shelf.writing c.play.new.shelf) (g.O.Out.written c.play.new.out)
    (g.O.Out.faults c.play.new.out))
    c.play.result (sym c.in-Some.ensures.asked) c.in-Some.ensures.request.differ c.play.ensures.run

pub returns-in-Some-clause-others : goal.returns-in-Some-clause-others
returns-in-Some-clause-others g c =
    clause_others (map string_bytes c.args.words.now) (request_data c.in-Some.request)
    (snapshot (g.S.Shelf.files c.args.shelf.now) (g.S.Shelf.reading c.args.shelf.now) (g.S.Shelf.writing c.args.shelf.now) (g.O.Out.written c.args.out.now)
    (g.O.Out.faults c.args.out.now))
    (snapshot (g.S.Shelf.files c.play.new.shelf) (g.S.Shelf.reading c.play.new.shelf) (g.S.Shelf.writing c.play.new.shelf) (g.O.Out.written c.play.new.out)
    (g.O.Out.faults c.play.new.out))
    c.play.result (sym c.in-Some.ensures.asked) c.in-Some.ensures.request.differ c.play.ensures.run

pub returns-in-Some-clause-report : goal.returns-in-Some-clause-report
returns-in-Some-clause-report g c =
    clause_report (map string_bytes c.args.words.now) (request_data c.in-Some.request)
    (snapshot (g.S.Shelf.files c.args.shelf.now) (g.S.Shelf.reading c.args.shelf.now) (g.S.Shelf.writing c.args.shelf.now) (g.O.Out.written c.args.out.now)
    (g.O.Out.faults c.args.out.now))
    (snapshot (g.S.Shelf.files c.play.new.shelf) (g.S.Shelf.reading c.play.new.shelf) (g.S.Shelf.writing c.play.new.shelf) (g.O.Out.written c.play.new.out)
    (g.O.Out.faults c.play.new.out))
    c.play.result (sym c.in-Some.ensures.asked) c.in-Some.ensures.request.differ c.play.ensures.run

pub returns-in-Some-clause-unread : goal.returns-in-Some-clause-unread
returns-in-Some-clause-unread g c =
    clause_unread (map string_bytes c.args.words.now) (request_data c.in-Some.request)
    (snapshot (g.S.Shelf.files c.args.shelf.now) (g.S.Shelf.reading c.args.shelf.now) (g.S.Shelf.writing c.args.shelf.now) (g.O.Out.written c.args.out.now)
    (g.O.Out.faults c.args.out.now))
    (snapshot (g.S.Shelf.files c.play.new.shelf) (g.S.Shelf.reading c.play.new.shelf) (g.S.Shelf.writing c.play.new.shelf) (g.O.Out.written c.play.new.out)
    (g.O.Out.faults c.play.new.out))
    c.play.result (sym c.in-Some.ensures.asked) c.in-Some.ensures.request.differ c.play.ensures.run

pub returns-in-Some-clause-fault : goal.returns-in-Some-clause-fault
returns-in-Some-clause-fault g c =
    clause_fault (map string_bytes c.args.words.now) (request_data c.in-Some.request)
    (snapshot (g.S.Shelf.files c.args.shelf.now) (g.S.Shelf.reading c.args.shelf.now) (g.S.Shelf.writing c.args.shelf.now) (g.O.Out.written c.args.out.now)
    (g.O.Out.faults c.args.out.now))
    (snapshot (g.S.Shelf.files c.play.new.shelf) (g.S.Shelf.reading c.play.new.shelf) (g.S.Shelf.writing c.play.new.shelf) (g.O.Out.written c.play.new.out)
    (g.O.Out.faults c.play.new.out))
    c.play.result (sym c.in-Some.ensures.asked) c.in-Some.ensures.request.differ c.play.ensures.run

pub returns-in-Some-clause-limit : goal.returns-in-Some-clause-limit
returns-in-Some-clause-limit g c =
    clause_limit (map string_bytes c.args.words.now) (request_data c.in-Some.request)
    (snapshot (g.S.Shelf.files c.args.shelf.now) (g.S.Shelf.reading c.args.shelf.now) (g.S.Shelf.writing c.args.shelf.now) (g.O.Out.written c.args.out.now)
    (g.O.Out.faults c.args.out.now))
    (snapshot (g.S.Shelf.files c.play.new.shelf) (g.S.Shelf.reading c.play.new.shelf) (g.S.Shelf.writing c.play.new.shelf) (g.O.Out.written c.play.new.out)
    (g.O.Out.faults c.play.new.out))
    c.play.result (sym c.in-Some.ensures.asked) c.in-Some.ensures.request.differ c.play.ensures.run

pub returns-in-Some-clause-judged : goal.returns-in-Some-clause-judged
returns-in-Some-clause-judged g c =
    clause_judged (map string_bytes c.args.words.now) (request_data c.in-Some.request)
    (snapshot (g.S.Shelf.files c.args.shelf.now) (g.S.Shelf.reading c.args.shelf.now) (g.S.Shelf.writing c.args.shelf.now) (g.O.Out.written c.args.out.now)
    (g.O.Out.faults c.args.out.now))
    (snapshot (g.S.Shelf.files c.play.new.shelf) (g.S.Shelf.reading c.play.new.shelf) (g.S.Shelf.writing c.play.new.shelf) (g.O.Out.written c.play.new.out)
    (g.O.Out.faults c.play.new.out))
    c.play.result (sym c.in-Some.ensures.asked) c.in-Some.ensures.request.differ c.play.ensures.run

pub returns-in-Some-clause-stopped : goal.returns-in-Some-clause-stopped
returns-in-Some-clause-stopped g c =
    clause_stopped (map string_bytes c.args.words.now) (request_data c.in-Some.request)
    (snapshot (g.S.Shelf.files c.args.shelf.now) (g.S.Shelf.reading c.args.shelf.now) (g.S.Shelf.writing c.args.shelf.now) (g.O.Out.written c.args.out.now)
    (g.O.Out.faults c.args.out.now))
    (snapshot (g.S.Shelf.files c.play.new.shelf) (g.S.Shelf.reading c.play.new.shelf) (g.S.Shelf.writing c.play.new.shelf) (g.O.Out.written c.play.new.out)
    (g.O.Out.faults c.play.new.out))
    c.play.result (sym c.in-Some.ensures.asked) c.in-Some.ensures.request.differ c.play.ensures.run

pub returns-in-Some-clause-places : goal.returns-in-Some-clause-places
returns-in-Some-clause-places g c =
    clause_places (map string_bytes c.args.words.now) (request_data c.in-Some.request)
    (snapshot (g.S.Shelf.files c.args.shelf.now) (g.S.Shelf.reading c.args.shelf.now) (g.S.Shelf.writing c.args.shelf.now) (g.O.Out.written c.args.out.now)
    (g.O.Out.faults c.args.out.now))
    (snapshot (g.S.Shelf.files c.play.new.shelf) (g.S.Shelf.reading c.play.new.shelf) (g.S.Shelf.writing c.play.new.shelf) (g.O.Out.written c.play.new.out)
    (g.O.Out.faults c.play.new.out))
    c.play.result (sym c.in-Some.ensures.asked) c.in-Some.ensures.request.differ c.play.ensures.run

pub returns-in-Some-clause-complete : goal.returns-in-Some-clause-complete
returns-in-Some-clause-complete g c =
    clause_complete (map string_bytes c.args.words.now) (request_data c.in-Some.request)
    (snapshot (g.S.Shelf.files c.args.shelf.now) (g.S.Shelf.reading c.args.shelf.now) (g.S.Shelf.writing c.args.shelf.now) (g.O.Out.written c.args.out.now)
    (g.O.Out.faults c.args.out.now))
    (snapshot (g.S.Shelf.files c.play.new.shelf) (g.S.Shelf.reading c.play.new.shelf) (g.S.Shelf.writing c.play.new.shelf) (g.O.Out.written c.play.new.out)
    (g.O.Out.faults c.play.new.out))
    c.play.result (sym c.in-Some.ensures.asked) c.in-Some.ensures.request.differ c.play.ensures.run

pub returns-in-Some-clause-written_out : goal.returns-in-Some-clause-written_out
returns-in-Some-clause-written_out g c = λ was.
    asked_for (map string_bytes c.args.words.now) (request_data c.in-Some.request) (λ b. HoldsNothing (g.S.Shelf.held c.play.new.shelf) b.out b.order)
    (sym c.in-Some.ensures.asked) (c.play.ensures.written_out was)

pub returns-in-Some-clause-names : goal.returns-in-Some-clause-names
returns-in-Some-clause-names g c = λ three.
    asked_for (map string_bytes c.args.words.now) (request_data c.in-Some.request)
    (λ b. NamesFailed b.out b.order (g.S.Shelf.failed c.args.shelf.now) (g.S.Shelf.failed c.play.new.shelf)
    (g.O.Out.written c.args.out.now) (g.O.Out.written c.play.new.out) (g.O.Out.faults c.args.out.now) (g.O.Out.faults c.play.new.out))
    (sym c.in-Some.ensures.asked) (c.play.ensures.names three)
