use Rattle.std.proofs.Common.{refl}
use Rattle.tool_core.specs.SysEx.{start_before}
use Rattle.tool_core.proofs.scan.Scanner.new.Goals as goal

pub returns : goal.returns
unfolding start_before
returns c file = record { reads = c.in_ok-new.ensures; start = refl }
