use Rattle.std.proofs.Common.{◌≡◌, length, map, take}
use Rattle.play_core.proofs.setup.quotas_of.Given as goal

abbrev pub invariant-loop-script : goal.invariant-loop-script
invariant-loop-script l = l.quotas.items ≡ map length (take l.script-index l.scripts)
