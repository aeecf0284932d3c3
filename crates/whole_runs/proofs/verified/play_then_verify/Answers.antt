use Rattle.std.proofs.Common.{map, string_bytes, ℕ, List}
use Rattle.outside.specs.Snapshot.{Snapshot, snapshot}
use Rattle.whole_runs.proofs.Verifies.{not_two, was_played}
use Rattle.whole_runs.proofs.Ran.{Ran, same, prints, unread, unsaid, past_limit, kept}
use Rattle.whole_runs.proofs.verified.play_then_verify.Given.{Over}
use Rattle.whole_runs.proofs.verified.play_then_verify.Goals as goal

module _ (g : Over) (c : goal.After-tool_main-verified g) where
  abbrev words : List (List ℕ)
  words = map string_bytes c.args.words.now

  abbrev check : List (List ℕ)
  check = map string_bytes c.args.check.now

  abbrev before : Snapshot
  before = snapshot (g.S.Shelf.files c.args.shelf.now) (g.S.Shelf.reading c.args.shelf.now) (g.S.Shelf.writing c.args.shelf.now)
      (g.O.Out.written c.args.out.now) (g.O.Out.faults c.args.out.now)

  abbrev mid : Snapshot
  mid = snapshot (g.S.Shelf.files c.play_main-played.new.shelf) (g.S.Shelf.reading c.play_main-played.new.shelf)
      (g.S.Shelf.writing c.play_main-played.new.shelf) (g.O.Out.written c.play_main-played.new.out) (g.O.Out.faults c.play_main-played.new.out)

  abbrev now : Snapshot
  now = snapshot (g.S.Shelf.files c.tool_main-verified.new.shelf) (g.S.Shelf.reading c.tool_main-verified.new.shelf)
      (g.S.Shelf.writing c.tool_main-verified.new.shelf) (g.O.Out.written c.tool_main-verified.new.out) (g.O.Out.faults c.tool_main-verified.new.out)

  ran : Ran words check c.play_main-played.result c.tool_main-verified.result before mid now
  ran =
      let was = was_played c.play_main-played.result c.if-played-eq5.either in
      record {
        was = was;
        order = c.play_main-played.ensures.order;
        sound = c.play_main-played.ensures.sound;
        line = c.play_main-played.ensures.line was;
        reading = c.play_main-played.ensures.reads (not_two c.play_main-played.result was);
        faults = c.play_main-played.ensures.puts was;
        status = c.tool_main-verified.ensures.status;
        usage = c.tool_main-verified.ensures.words.0;
        done = c.tool_main-verified.ensures.done;
        unread = c.tool_main-verified.ensures.unread;
        unwritten = c.tool_main-verified.ensures.unwritten;
        refused = c.tool_main-verified.ensures.refused;
        past_limit = c.tool_main-verified.ensures.past_limit;
        untouched = c.tool_main-verified.ensures.untouched;
      }

pub returns-then-played-eq5-clause-same : goal.returns-then-played-eq5-clause-same
returns-then-played-eq5-clause-same g c =
    same (words g c) (check g c) c.play_main-played.result c.tool_main-verified.result (before g c) (mid g c) (now g c) (ran g c)

pub returns-then-played-eq5-clause-prints : goal.returns-then-played-eq5-clause-prints
returns-then-played-eq5-clause-prints g c =
    prints (words g c) (check g c) c.play_main-played.result c.tool_main-verified.result (before g c) (mid g c) (now g c) (ran g c)

pub returns-then-played-eq5-clause-unread : goal.returns-then-played-eq5-clause-unread
returns-then-played-eq5-clause-unread g c =
    unread (words g c) (check g c) c.play_main-played.result c.tool_main-verified.result (before g c) (mid g c) (now g c) (ran g c)

pub returns-then-played-eq5-clause-unsaid : goal.returns-then-played-eq5-clause-unsaid
returns-then-played-eq5-clause-unsaid g c =
    unsaid (words g c) (check g c) c.play_main-played.result c.tool_main-verified.result (before g c) (mid g c) (now g c) (ran g c)

pub returns-then-played-eq5-clause-past_limit : goal.returns-then-played-eq5-clause-past_limit
returns-then-played-eq5-clause-past_limit g c =
    past_limit (words g c) (check g c) c.play_main-played.result c.tool_main-verified.result (before g c) (mid g c) (now g c) (ran g c)

pub returns-then-played-eq5-clause-kept : goal.returns-then-played-eq5-clause-kept
returns-then-played-eq5-clause-kept g c =
    kept (words g c) (check g c) c.play_main-played.result c.tool_main-verified.result (before g c) (mid g c) (now g c) (ran g c)
