use Rattle.std.proofs.Common.{◌≡◌, ◌<◌, length, refl, ◌∙◌, arith}
use Rattle.outside.proofs.Shelves.{handed_on}
use Rattle.tool_core.specs.Lines.{lines_before}
use Rattle.tool_core.proofs.Reports.{count_next, count_none, nothing_yet, lines_fail, ok_put, err_put, cause_from, report_put}
use Rattle.tool_core.proofs.check_report.put_messages.Goals as goal

pub loop-offset-init : goal.loop-offset-init
loop-offset-init g c = record {
  follows = c.requires.begins;
  puts = nothing_yet (g.O.Out.written c.args.out.now) c.new-page.result.items c.args.file.now c.new-page.ensures;
  count = count_none c.args.file.now;
  few = omega arith;
  faults = refl;
}

pub loop-offset-preserved : goal.loop-offset-preserved
loop-offset-preserved g c =
    let below : c.loop-offset.offset < length c.args.file.now = omega arith in
    record {
      follows = c.put_byte.ensures.follows c.args.file.now below refl c.loop-offset.invariant.follows;
      puts = c.in-Ok.ensures.line c.args.file.now (g.O.Out.written c.args.out.now) below refl c.loop-offset.invariant.follows c.loop-offset.invariant.puts;
      count = count_next c.args.file.now c.loop-offset.offset c.loop-offset.count c.in-Ok.more c.loop-offset.invariant.count
          (c.in-Ok.ensures.count c.args.file.now below refl c.loop-offset.invariant.follows);
      few = omega (arith, c.in-Ok.ensures.one, c.loop-offset.invariant.few);
      faults = c.in-Ok.ensures.cause.kept ∙ c.loop-offset.invariant.faults;
    }

pub returns-in-Err-clause-some : goal.returns-in-Err-clause-some
returns-in-Err-clause-some g c =
    lines_fail _ _ c.args.file.now c.loop-offset.offset (omega arith)
    (c.in-Err.ensures.err (g.O.Out.written c.args.out.now) (lines_before c.args.file.now c.loop-offset.offset) c.loop-offset.invariant.puts)

pub returns-in-Err-clause-cause : goal.returns-in-Err-clause-cause
returns-in-Err-clause-cause g c = handed_on _ _ _ _ _ _ _ _ _ _ c.loop-offset.invariant.faults refl (λ never. never) c.in-Err.ensures.cause refl

pub returns-clause-some : goal.returns-clause-some
returns-clause-some g c =
    lines_fail _ _ c.args.file.now c.loop-offset.offset (omega arith)
    (c.in-Err-put_line.ensures.err (g.O.Out.written c.args.out.now) (lines_before c.args.file.now c.loop-offset.offset) c.loop-offset.invariant.puts)

pub returns-in-Ok-put_line-clause-all : goal.returns-in-Ok-put_line-clause-all
returns-in-Ok-put_line-clause-all g c =
    let ended : c.loop-offset.offset ≡ length c.args.file.now = omega arith in
    ok_put c.put_page.result (g.O.Out.written c.args.out.now) (g.O.Out.written c.put_line.new.out) (g.O.Out.written c.put_page.new.out)
    c.put_line.new.page.items _
    (report_put (g.O.Out.written c.args.out.now) (g.O.Out.written c.put_line.new.out) c.put_line.new.page.items c.args.file.now c.as_slice.result.now
    c.loop-offset.offset c.loop-offset.count
    ended c.loop-offset.invariant.count (c.as_slice.ensures.value ∙ c.count_line-line.ensures)
    (c.in-Ok-put_line.ensures.ok (g.O.Out.written c.args.out.now) (lines_before c.args.file.now c.loop-offset.offset) c.loop-offset.invariant.puts))
    c.put_page.ensures.ok

pub returns-in-Ok-put_line-clause-some : goal.returns-in-Ok-put_line-clause-some
returns-in-Ok-put_line-clause-some g c =
    let ended : c.loop-offset.offset ≡ length c.args.file.now = omega arith in
    err_put c.put_page.result (g.O.Out.written c.args.out.now) (g.O.Out.written c.put_line.new.out) (g.O.Out.written c.put_page.new.out)
    c.put_line.new.page.items _
    (report_put (g.O.Out.written c.args.out.now) (g.O.Out.written c.put_line.new.out) c.put_line.new.page.items c.args.file.now c.as_slice.result.now
    c.loop-offset.offset c.loop-offset.count
    ended c.loop-offset.invariant.count (c.as_slice.ensures.value ∙ c.count_line-line.ensures)
    (c.in-Ok-put_line.ensures.ok (g.O.Out.written c.args.out.now) (lines_before c.args.file.now c.loop-offset.offset) c.loop-offset.invariant.puts))
    c.put_page.ensures.err

pub returns-in-Ok-put_line-clause-cause : goal.returns-in-Ok-put_line-clause-cause
returns-in-Ok-put_line-clause-cause g c =
    cause_from c.put_page.result _ _ _ (c.in-Ok-put_line.ensures.cause.kept ∙ c.loop-offset.invariant.faults) c.put_page.ensures.cause
