use Rattle.std.proofs.Common.{◌≡◌, map}
use Rattle.tool_core.specs.Effects.{scripts_of}
use Rattle.tool_core.specs.Scripts.{shown}
use Rattle.tool_core.proofs.generate.make_scripts.Given as goal

abbrev pub invariant-loop-script : goal.invariant-loop-script
invariant-loop-script l = map shown l.files.items ≡ scripts_of l.seed l.commands l.script
