use Rattle.std.proofs.Common.{◌∙◌, ◌≢◌, ◌<◌, length, pos, get_or, ap, subst, SFits, w16, w64, below_more, length-set, get_or-set_other, get_or-set_same, arith}
use Rattle.std.proofs.Common.{rules}
use Rattle.std.proofs.lemmas.Int.{to_z-of_z}
use Rattle.std.proofs.lemmas.List.FromFn.{fill_by_all}
use Rattle.instrument.specs.Running.{AreSlots}
use Rattle.instrument.specs.State.{samples, passed, output_of, mix_of, slot_later}
use Rattle.instrument.proofs.Sums.{sum_is}
use Rattle.instrument.proofs.instrument.Instrument.block.Goals as goal

pub loop-j-preserved : goal.loop-j-preserved
loop-j-preserved c =
    let j = c.loop-j.j in
    let v = c.loop-j.invariant in
    let f1 : SFits w16 c.output.result = record { sfits = c.output.type_inv } in
    let f2 : SFits w64 (get_or c.sound_all.new.mix j (pos 0)) = search rules in
    let e = simp to_z-of_z at c.output.ensures in
    let l : j < length c.loop-j.out = rw v.len c.loop-j-test.true in
    record {
      len = simp length-set v.len;
      done = below_more _ _
          (λ k h. let ne : k ≢ j = omega arith in rw get_or-set_other (v.done k h))
          (rw get_or-set_same (to_z-of_z w16 _ f1 ∙ e));
    }

pub returns-clause-samples : goal.returns-clause-samples
unfolding samples
returns-clause-samples c = λ s h.
    let v = c.loop-j.invariant in
    let stepped = c.next_modulation-modulation.ensures.stepped s h in
    let moved = c.next_modulation-modulation.ensures.value s h in
    fill_by_all _ c.loop-j.out 64 (pos 0) v.len (λ k lt.
    v.done k (omega arith) ∙ ap output_of (sum_is _ _ _ c.empty_mix-mix.ensures (c.sound_all.ensures.samples s.slots stepped.slots) k lt
    ∙ ap (λ m. mix_of m s.slots 16 k) moved))

pub returns-clause-passed : goal.returns-clause-passed
unfolding passed
returns-clause-passed c = λ s h.
    let t = c.next_modulation-modulation.ensures.stepped s h in
    record {
      bank = t.bank;
      voice = t.voice;
      switch = t.switch;
      bend = t.bend;
      wheel = t.wheel;
      pedal = t.pedal;
      next = t.next;
      lfo = t.lfo;
      slots = subst (λ m. AreSlots c.sound_all.new.slots (λ i. slot_later m (s.slots i))) (c.next_modulation-modulation.ensures.value s h)
          (c.sound_all.ensures.passed s.slots t.slots);
    }
