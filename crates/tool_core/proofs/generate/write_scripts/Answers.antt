use Rattle.std.proofs.Common.{◌∙◌, refl, arith}
use Rattle.tool_core.proofs.Several.{no_file, one_more, failed_in, all_written}
use Rattle.tool_core.proofs.Held.{holds_all, holds_more}
use Rattle.tool_core.proofs.generate.write_scripts.Goals as goal

pub loop-at-init : goal.loop-at-init
loop-at-init g c = record { files = no_file (g.S.Shelf.files c.args.shelf.now) c.args.files.now; writing = refl; reading = refl; held = tt }

pub loop-at-preserved : goal.loop-at-preserved
loop-at-preserved g c = record {
  files =
      one_more (g.S.Shelf.files c.args.shelf.now) (g.S.Shelf.files c.loop-at.shelf) _ c.args.files.now c.loop-at.at c.index-files-at.result c.loop-at-test.true
      c.index-files-at.is
      c.loop-at.invariant.files c.in-Ok.ensures.whole;
  writing = c.in-Ok.ensures.cause.kept ∙ c.loop-at.invariant.writing;
  reading = c.in-Ok.ensures.cause.other ∙ c.loop-at.invariant.reading;
  held =
      holds_more c.args.files.now c.loop-at.at c.index-files-at.result _ _ c.loop-at-test.true c.index-files-at.is c.loop-at.invariant.held c.in-Ok.ensures.held
      c.in-Ok.ensures.held_of_others;
}

pub returns-in-Err-clause-failed : goal.returns-in-Err-clause-failed
returns-in-Err-clause-failed g c =
    failed_in (g.S.Shelf.files c.args.shelf.now) (g.S.Shelf.files c.loop-at.shelf) _ c.args.files.now c.loop-at.at c.index-files-at.result c.loop-at-test.true
    c.index-files-at.is
    c.loop-at.invariant.files c.in-Err.ensures.begun

pub returns-clause-whole : goal.returns-clause-whole
returns-clause-whole g c =
    all_written (g.S.Shelf.files c.args.shelf.now) (g.S.Shelf.files c.loop-at.shelf) c.args.files.now c.loop-at.at
    (omega (arith, c.loop-at.auto.at-end, c.loop-at-test.false)) c.loop-at.invariant.files

pub returns-clause-held : goal.returns-clause-held
returns-clause-held g c =
    holds_all c.args.files.now c.loop-at.at _ (omega (arith, c.loop-at.auto.at-end, c.loop-at-test.false)) c.loop-at.invariant.held
