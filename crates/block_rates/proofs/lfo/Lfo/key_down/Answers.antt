use Rattle.std.proofs.Common.{ℕ, ◌<◌, ◌^◌, ◌-◌, Bool, true, false, cond, sym, ◌∙◌, ◌==◌, arith}
use Rattle.block_rates.specs.Lfos.{key_pressed, phase_after}
use Rattle.block_rates.proofs.LfoSteps.{phase_small, phase_begins, random_begins, delay_begins}
use Rattle.block_rates.proofs.lfo.Lfo.key_down.Goals as goal

chosen_small : (b : Bool) (p : ℕ) → p < 2 ^ 32 → cond b (2 ^ 31 - 1) p < 2 ^ 32
chosen_small true p h = omega arith
chosen_small false p h = h

pub returns : goal.returns
returns c = λ o m h.
    let small = chosen_small (o.settings.sync == 1) (phase_after o m) (phase_small o m) in
    record {
      speed = h.speed;
      delay = h.delay;
      sync = h.sync;
      wave = h.wave;
      phase = c.phase_at_key-self.ensures ∙ rw (h.sync, h.phase) (sym (phase_begins (key_pressed o m) small));
      random = h.random ∙ sym (random_begins (key_pressed o m) small);
      delay_state = sym (delay_begins (key_pressed o m));
    }
