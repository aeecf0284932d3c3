use Rattle.std.proofs.Common.{◌≡◌, take}
use Rattle.tool_core.proofs.comparison.compare_chunk.Given as goal

abbrev pub invariant-loop-i : goal.invariant-loop-i
invariant-loop-i l = take l.i l.chunk ≡ take l.i l.wanted
