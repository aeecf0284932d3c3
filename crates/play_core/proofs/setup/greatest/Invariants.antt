use Rattle.std.proofs.Common.{◌≡◌, ◌+◌, take}
use Rattle.play_core.specs.Verdict.{greatest_due}
use Rattle.play_core.specs.Setup.{AreInTime}
use Rattle.play_core.proofs.setup.greatest.Given as goal

abbrev pub invariant-loop-script : goal.invariant-loop-script
invariant-loop-script l = record {
  due : l.due ≡ greatest_due (take l.script-index l.scripts);
  within : AreInTime (l.due + 1) (take l.script-index l.scripts);
}
