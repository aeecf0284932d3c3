use Rattle.std.proofs.Common.{ℕ, ◌≤◌, ap, sym, ◌∙◌, ◌==◌}
use Rattle.voice_record.specs.Voice.{greatest_value}
use Rattle.voice_record.specs.declared.parameter.TheConstants.{LFO_SPEED, LFO_DELAY}
use Rattle.block_rates.specs.Waves.{wave_of}
use Rattle.block_rates.specs.Lfos.{lfo_settings, assigned}
use Rattle.block_rates.proofs.LfoSteps.{phase_small, phase_begins, random_begins, delay_begins}
use Rattle.block_rates.proofs.lfo.Lfo.assign.Goals as goal

speed_within : (n : ℕ) → n ≤ greatest_value LFO_SPEED → n ≤ 99
unfolding greatest_value
speed_within n h = h

delay_within : (n : ℕ) → n ≤ greatest_value LFO_DELAY → n ≤ 99
unfolding greatest_value
delay_within n h = h

pub invariant_of-self : goal.invariant_of-self
invariant_of-self c = record {
  speed_bound = speed_within _ c.get-self.ensures.within;
  delay_bound = delay_within _ c.get-self-2.ensures.within;
}

pub returns : goal.returns
returns c = λ o m h.
    let s = lfo_settings c.args.voice.now in
    let small = phase_small o m in
    record {
      speed = c.get-self.ensures.value;
      delay = c.get-self-2.ensures.value;
      sync = ap (λ n. n == 1) c.get.ensures.value;
      wave = c.of-self.ensures ∙ ap wave_of c.get-2.ensures.value;
      phase = h.phase ∙ sym (phase_begins (assigned s o m) small);
      random = h.random ∙ sym (random_begins (assigned s o m) small);
      delay_state = h.delay_state ∙ sym (delay_begins (assigned s o m));
    }
