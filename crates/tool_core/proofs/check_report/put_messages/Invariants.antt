use Rattle.std.proofs.Common.{◌≡◌, ◌≤◌, length}
use Rattle.tool_core.specs.SysEx.{sysex_before}
use Rattle.tool_core.specs.Lines.{lines_before}
use Rattle.tool_core.specs.Pages.{Holds}
use Rattle.tool_core.specs.Scans.{Follows}
use Rattle.tool_core.proofs.check_report.put_messages.Given as goal

abbrev pub invariant-loop-offset : goal.invariant-loop-offset
invariant-loop-offset g l = record {
  follows : Follows l.scanner l.file l.offset;
  puts : Holds (g.O.Out.written l.fn.out) (g.O.Out.written l.out) l.page.items (lines_before l.file l.offset);
  count : l.count ≡ length (sysex_before l.file l.offset);
  few : l.count ≤ l.offset;
  faults : g.O.Out.faults l.out ≡ g.O.Out.faults l.fn.out;
}
