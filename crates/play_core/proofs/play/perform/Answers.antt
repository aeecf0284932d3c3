use Rattle.std.proofs.Common.{inl, ◌≡◌, ◌≤◌, ◌-◌, ℕ, List, length, map, ◌∙◌, sym, ap, subst, refl, arith, rules, ⊎_elim, string_bytes}
use Rattle.outside.specs.Faults.{Rose, HasFailed}
use Rattle.std.specs.Prelude.{◌==◌, if◌then◌else◌, option_map, Option}
use Rattle.std.proofs.lemmas.List.{length-map}
use Rattle.outside.specs.Files.{Files}
use Rattle.command_set.specs.Entries.{journal_data, logged_data}
use Rattle.take_files.specs.Files.{wav_header, order_header}
use Rattle.turns.specs.Turns.{plans_of, many_commands}
use Rattle.play_core.specs.Words.{request_data}
use Rattle.play_core.specs.Verdict.{blocks_of_run, places_of_run}
use Rattle.play_core.specs.Files.{with_two}
use Rattle.outside.specs.Snapshot.{snapshot}
use Rattle.play_core.proofs.Runs.{rose_on, none_ordered, stopped_at_start, stopped_in_turns, played_whole, run_ordered}
use Rattle.play_core.proofs.Counts.{not_more}
use Rattle.play_core.proofs.Following.{all_follow}
use Rattle.play_core.proofs.Setups.{all_due}
use Rattle.turns.specs.Written.{Blames, name_of}
use Rattle.play_core.proofs.Failing.{names_failed, says_one}
use Rattle.play_core.proofs.Writes.{has_first, has_second}
use Rattle.play_core.proofs.play.perform.Goals as goal

pub play_scripts-journal-requires-clause-due : goal.play_scripts-journal-requires-clause-due
play_scripts-journal-requires-clause-due g c κs within = all_due c.args.setup.blocks c.args.setup.cast.players.items c.requires.setup.due

pub play_scripts-journal-requires-clause-has_sound : goal.play_scripts-journal-requires-clause-has_sound
play_scripts-journal-requires-clause-has_sound g c κs within = has_first c.args.request.out.now c.args.request.order.now c.requires.request.differ _ _ _ _
    c.in-Ok.ensures.whole

pub play_scripts-journal-requires-clause-has_order : goal.play_scripts-journal-requires-clause-has_order
play_scripts-journal-requires-clause-has_order g c κs within = has_second c.args.request.out.now c.args.request.order.now c.requires.request.differ _ _ _ _
    c.in-Ok.ensures.whole

pub returns-in-Err-clause-run : goal.returns-in-Err-clause-run
returns-in-Err-clause-run g c =
    stopped_at_start (request_data c.args.request)
    (snapshot (g.S.Shelf.files c.args.shelf.now) (g.S.Shelf.reading c.args.shelf.now) (g.S.Shelf.writing c.args.shelf.now) (g.O.Out.written c.args.out.now)
    (g.O.Out.faults c.args.out.now))
    (snapshot (g.S.Shelf.files c.stop.new.shelf) (g.S.Shelf.reading c.stop.new.shelf) (g.S.Shelf.writing c.stop.new.shelf) (g.O.Out.written c.stop.new.out)
    (g.O.Out.faults c.stop.new.out))
    c.stop.result (plans_of c.args.setup.cast.players.items) c.requires.request.differ c.requires.plans c.in-Err.target c.stop.ensures.status
    (rw (← c.requires.setup.blocks_are)
    (none_ordered c.args.setup.blocks (length (plans_of c.args.setup.cast.players.items)) c.requires.setup.some c.requires.setup.few
    (omega (arith, c.requires.plans.0, length-map c.args.request.scripts.now string_bytes, c.requires.request.scripts.0))
    (omega (arith, c.requires.plans.0, length-map c.args.request.scripts.now string_bytes, c.requires.request.scripts.1))))
    (rw (c.stop.ensures.files, ← c.requires.setup.blocks_are, c.requires.plans.0, length-map c.args.request.scripts.now string_bytes) c.in-Err.ensures.stopped)
    (c.stop.ensures.reading ∙ c.in-Err.ensures.cause.other)
    (rose_on (g.S.Shelf.writing c.args.shelf.now) (g.S.Shelf.writing c.begin_files.new.shelf) (g.S.Shelf.writing c.stop.new.shelf)
    (⊎_elim (λ (r : Rose (g.S.Shelf.writing c.args.shelf.now) (g.S.Shelf.writing c.begin_files.new.shelf)). r) (λ b. absurd b) c.in-Err.ensures.cause.failed)
    c.stop.ensures.writing)
    (says_one c.in-Err.target _ _ _ _ _ _ c.stop.ensures.line)

pub returns-in-Ok-result-clause-run : goal.returns-in-Ok-result-clause-run
returns-in-Ok-result-clause-run g c =
    let count : length (journal_data c.play_scripts-journal.result.0.items) ≡ c.len.result =
    omega (arith, length-map c.play_scripts-journal.result.0.items logged_data, c.len.ensures, c.play_scripts-journal.result.0.ok) in
    let few : length (journal_data c.play_scripts-journal.result.0.items) ≤ many_commands (plans_of c.args.setup.cast.players.items) =
    not_more (plans_of c.args.setup.cast.players.items) (journal_data c.play_scripts-journal.result.0.items) c.play_scripts-journal.ensures.played in
    let scripts : length (plans_of c.args.setup.cast.players.items) ≤ 256 =
    omega (arith, c.requires.plans.0, length-map c.args.request.scripts.now string_bytes, c.requires.request.scripts.1) in
    played_whole (request_data c.args.request)
    (snapshot (g.S.Shelf.files c.args.shelf.now) (g.S.Shelf.reading c.args.shelf.now) (g.S.Shelf.writing c.args.shelf.now) (g.O.Out.written c.args.out.now)
    (g.O.Out.faults c.args.out.now))
    (snapshot (g.S.Shelf.files c.play_scripts-journal.new.shelf) (g.S.Shelf.reading c.play_scripts-journal.new.shelf)
    (g.S.Shelf.writing c.play_scripts-journal.new.shelf) (g.O.Out.written c.put_report.new.out) (g.O.Out.faults c.put_report.new.out))
    c.put_report.result (plans_of c.args.setup.cast.players.items) c.requires.request.differ c.requires.plans (g.S.Shelf.files c.begin_files.new.shelf)
    (journal_data c.play_scripts-journal.result.0.items)
    (rw (← c.requires.setup.blocks_are, c.requires.plans.0, length-map c.args.request.scripts.now string_bytes) c.in-Ok.ensures.whole)
    (rw (← c.requires.setup.blocks_are) (search rules))
    (rw (← c.requires.setup.blocks_are)
    (run_ordered (journal_data c.play_scripts-journal.result.0.items) c.args.setup.blocks (length (plans_of c.args.setup.cast.players.items))
    (many_commands (plans_of c.args.setup.cast.players.items))
    c.requires.setup.some c.requires.setup.few
    (omega (arith, c.requires.plans.0, length-map c.args.request.scripts.now string_bytes, c.requires.request.scripts.0))
    scripts few c.requires.few
    (all_follow (journal_data c.play_scripts-journal.result.0.items) (plans_of c.args.setup.cast.players.items) c.args.setup.blocks
    c.play_scripts-journal.ensures.played c.play_scripts-journal.ensures.order
    c.play_scripts-journal.ensures.ranges c.requires.setup.some c.requires.setup.few scripts (omega (arith, few, c.requires.few)))))
    (rw (← c.requires.setup.places_are) (search rules))
    few
    (c.play_scripts-journal.ensures.cause.other ∙ c.in-Ok.ensures.cause.other)
    ((search rules) ∙ c.in-Ok.ensures.cause.kept)
    (rw (count, ← c.requires.setup.commands, ← c.requires.setup.blocks_are) c.put_report.ensures)

pub returns-clause-run : goal.returns-clause-run
returns-clause-run g c =
    let few : length (journal_data c.play_scripts-journal.result.0.items) ≤ many_commands (plans_of c.args.setup.cast.players.items) =
    not_more (plans_of c.args.setup.cast.players.items) (journal_data c.play_scripts-journal.result.0.items) c.play_scripts-journal.ensures.played in
    let scripts : length (plans_of c.args.setup.cast.players.items) ≤ 256 =
    omega (arith, c.requires.plans.0, length-map c.args.request.scripts.now string_bytes, c.requires.request.scripts.1) in
    stopped_in_turns (request_data c.args.request)
    (snapshot (g.S.Shelf.files c.args.shelf.now) (g.S.Shelf.reading c.args.shelf.now) (g.S.Shelf.writing c.args.shelf.now) (g.O.Out.written c.args.out.now)
    (g.O.Out.faults c.args.out.now))
    (snapshot (g.S.Shelf.files c.stop-in-Err-result.new.shelf) (g.S.Shelf.reading c.stop-in-Err-result.new.shelf)
    (g.S.Shelf.writing c.stop-in-Err-result.new.shelf) (g.O.Out.written c.stop-in-Err-result.new.out) (g.O.Out.faults c.stop-in-Err-result.new.out))
    c.stop-in-Err-result.result (plans_of c.args.setup.cast.players.items) c.requires.request.differ c.requires.plans (g.S.Shelf.files c.begin_files.new.shelf)
    (journal_data c.play_scripts-journal.result.0.items)
    (rw (← c.requires.setup.blocks_are, c.requires.plans.0, length-map c.args.request.scripts.now string_bytes) c.in-Ok.ensures.whole)
    c.stop-in-Err-result.ensures.status
    (rw (← c.requires.setup.blocks_are)
    (run_ordered (journal_data c.play_scripts-journal.result.0.items) c.args.setup.blocks (length (plans_of c.args.setup.cast.players.items))
    (many_commands (plans_of c.args.setup.cast.players.items))
    c.requires.setup.some c.requires.setup.few
    (omega (arith, c.requires.plans.0, length-map c.args.request.scripts.now string_bytes, c.requires.request.scripts.0))
    scripts few c.requires.few
    (all_follow (journal_data c.play_scripts-journal.result.0.items) (plans_of c.args.setup.cast.players.items) c.args.setup.blocks
    c.play_scripts-journal.ensures.played c.play_scripts-journal.ensures.order
    c.play_scripts-journal.ensures.ranges c.requires.setup.some c.requires.setup.few scripts (omega (arith, few, c.requires.few)))))
    c.play_scripts-journal.ensures.played
    (rw (c.stop-in-Err-result.ensures.files, ← c.requires.setup.blocks_are) (search rules))
    (c.stop-in-Err-result.ensures.reading ∙ c.play_scripts-journal.ensures.cause.other ∙ c.in-Ok.ensures.cause.other)
    (rose_on (g.S.Shelf.writing c.args.shelf.now) (g.S.Shelf.writing c.play_scripts-journal.new.shelf) (g.S.Shelf.writing c.stop-in-Err-result.new.shelf)
    (rw (← c.in-Ok.ensures.cause.kept) (search rules)) c.stop-in-Err-result.ensures.writing)
    (says_one c.in-Err-result.target _ _ _ _ _ _ c.stop-in-Err-result.ensures.line)

pub put_report-requires : goal.put_report-requires
put_report-requires g c =
    omega (
      arith,
      not_more (plans_of c.args.setup.cast.players.items) (journal_data c.play_scripts-journal.result.0.items) c.play_scripts-journal.ensures.played,
      length-map c.play_scripts-journal.result.0.items logged_data,
      c.len.ensures,
      c.play_scripts-journal.result.0.ok,
      c.requires.setup.commands,
    )

pub overflow_cast-len : goal.overflow_cast-len
overflow_cast-len g c =
    omega (
      arith,
      not_more (plans_of c.args.setup.cast.players.items) (journal_data c.play_scripts-journal.result.0.items) c.play_scripts-journal.ensures.played,
      length-map c.play_scripts-journal.result.0.items logged_data,
      c.len.ensures,
      c.play_scripts-journal.result.0.ok,
      c.requires.few,
    )

pub returns-in-Err-clause-names : goal.returns-in-Err-clause-names
returns-in-Err-clause-names g c = λ three.
    names_failed c.in-Err.target _ _ _ _ _ _ _ _ _ c.in-Err.ensures.blames c.stop.ensures.later c.stop.ensures.line

pub returns-in-Ok-result-clause-names : goal.returns-in-Ok-result-clause-names
returns-in-Ok-result-clause-names g c = λ three. inl ((search rules) ∙ c.in-Ok.ensures.blames)

pub returns-clause-names : goal.returns-clause-names
returns-clause-names g c = λ three.
    let out = c.args.request.out.now in
    let order = c.args.request.order.now in
    names_failed c.in-Err-result.target _ _ _ _ _ _ _ _ _
    (subst (λ (o : Option (List (List ℕ))). HasFailed (name_of c.in-Err-result.target out order) o (g.S.Shelf.failed c.play_scripts-journal.new.shelf))
    c.in-Ok.ensures.blames
    (subst (λ r. Blames r out order (g.S.Shelf.failed c.begin_files.new.shelf) (g.S.Shelf.failed c.play_scripts-journal.new.shelf))
    c.in-Err-result.is c.play_scripts-journal.ensures.blames))
    c.stop-in-Err-result.ensures.later c.stop-in-Err-result.ensures.line
