-- The array is the message, written out.
use Rattle.std.proofs.Common.{arith, refl}
use Rattle.sysex_frame.proofs.Laws.{frame_unique}
use Rattle.sysex_frame.proofs.write.write_param.Goals as goal

pub returns-clause-frame : goal.returns-clause-frame
returns-clause-frame c = record {
  sixteen = omega arith;
  known = c.requires.number;
  within = c.requires.value;
  spelled = refl;
}

pub returns-clause-only : goal.returns-clause-only
returns-clause-only c = λ content h. frame_unique _ content _ h (returns-clause-frame c)
