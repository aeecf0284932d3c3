use Rattle.std.proofs.Common.{◌≡◌, ◌≤◌, ◌*◌, length}
use Rattle.tool_core.specs.Lines.{name_lines}
use Rattle.tool_core.proofs.list_report.list_page.Given as goal

abbrev pub invariant-loop-slot : goal.invariant-loop-slot
invariant-loop-slot l = record {
  lines : l.page.items ≡ name_lines l.cartridge l.slot;
  room : length l.page.items ≤ 128 * l.slot;
}
