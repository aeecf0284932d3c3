use Rattle.std.proofs.Common.{refl}
use Rattle.tool_core.proofs.Scanning.{scans_none}
use Rattle.tool_core.proofs.scan.scan_file.Goals as goal

pub loop-offset-init : goal.loop-offset-init
loop-offset-init c = record { follows = c.in_ok-scanner.ensures c.args.file.now; scanned = scans_none c.args.file.now _ refl refl refl refl }
