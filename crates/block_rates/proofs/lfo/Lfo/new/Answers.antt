use Rattle.std.proofs.Common.{refl, arith, sym}
use Rattle.voice_record.specs.Voice.{opening_voice}
use Rattle.block_rates.specs.Lfos.{opening_lfo}
use Rattle.block_rates.proofs.LfoSteps.{phase_begins, random_begins, delay_begins}
use Rattle.block_rates.proofs.lfo.Lfo.new.Goals as goal

pub returns : goal.returns
unfolding opening_voice
returns c = record {
  speed = refl;
  delay = refl;
  sync = refl;
  wave = refl;
  phase = sym (phase_begins opening_lfo (omega arith));
  random = sym (random_begins opening_lfo (omega arith));
  delay_state = sym (delay_begins opening_lfo);
}
