use Rattle.tool_core.specs.SysEx.{sysex_before}
use Rattle.tool_core.specs.Scans.{Follows}
use Rattle.tool_core.specs.Scans.{IsScan}
use Rattle.tool_core.proofs.scan.scan_file.Given as goal

abbrev pub invariant-loop-offset : goal.invariant-loop-offset
invariant-loop-offset l = record {
  follows : Follows l.scanner l.file l.offset;
  scanned : IsScan l.scan (sysex_before l.file l.offset);
}
