use Rattle.std.proofs.Common.{ℕ, ◌≡◌, ◌+◌, ◌-◌, ◌%◌, ◌<◌, ◌^◌, refl, ap, sym, ◌∙◌, pos, w32, SFits, arith}
use Rattle.std.proofs.lemmas.Int.{to_z-of_z, to_z_pos}
use Rattle.block_rates.specs.Waves.{wave_of, wave_value}
use Rattle.block_rates.specs.Lfos.{LfoState, phase_increment, phase_after, random_after, delay_state_after, depth_of, lfo_value, lfo_depth}
use Rattle.block_rates.proofs.LfoSteps.{phase_more, random_more, delay_more}
use Rattle.block_rates.proofs.lfo.Lfo.step.Goals as goal

pub returns-clause-stands : goal.returns-clause-stands
returns-clause-stands c = λ o m h.
    let increment = c.phase_increment-increment.ensures.value ∙ ap phase_increment h.speed in
    let small : phase_increment o.settings.speed < 2 ^ 32 = omega (arith, increment, c.phase_increment-increment.ensures.bound) in
    let phase : (c.args.self.now.phase + c.phase_increment-increment.result) % 2 ^ 32 ≡ phase_after o (m + 1) = rw (h.phase, increment) (phase_more o m) in
    record {
      speed = h.speed;
      delay = h.delay;
      sync = h.sync;
      wave = h.wave;
      phase = phase;
      random = c.held_random-self.ensures ∙ rw (h.wave, h.random, phase, increment) (sym (random_more o m small));
      delay_state = c.next_delay_state-self.ensures ∙ rw (h.delay, h.delay_state) (sym (delay_more o m));
    }

value_at : (o : LfoState) (m : ℕ) → wave_value (wave_of o.settings.wave) (phase_after o m) (random_after o m) ≡ lfo_value o m
unfolding lfo_value
value_at o m = refl

pub returns-clause-value : goal.returns-clause-value
returns-clause-value c = λ o m h.
    let n = returns-clause-stands c o m h in
    let f : SFits w32 c.value.result = record { sfits = c.value.type_inv } in
    to_z-of_z w32 c.value.result f ∙ c.value.ensures.value ∙ rw (n.wave, n.phase, n.random) (value_at o (m + 1))

depth_at : (o : LfoState) (m : ℕ) → depth_of o.settings.delay (delay_state_after o m) ≡ lfo_depth o (m + 1)
unfolding lfo_depth
depth_at o m = let e : m + 1 - 1 ≡ m = omega arith in rw e refl

pub returns-clause-depth : goal.returns-clause-depth
returns-clause-depth c = λ o m h.
    let small : c.depth_of-depth.result < 2 ^ 31 = omega (arith, c.depth_of-depth.ensures.bound) in
    to_z_pos w32 c.depth_of-depth.result small ∙ ap pos (c.depth_of-depth.ensures.value ∙ rw (h.delay, h.delay_state) (depth_at o m))
