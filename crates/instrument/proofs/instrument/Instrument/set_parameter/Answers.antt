use Rattle.std.proofs.Common.{◌∙◌, ◌≢◌, ap, set, refl}
use Rattle.instrument.proofs.States.{switch_set, number_set, switch_within, on_ok}
use Rattle.instrument.proofs.instrument.Instrument.set_parameter.Goals as goal

pub invariant_of-self-clause-switch_in_range : goal.invariant_of-self-clause-switch_in_range
invariant_of-self-clause-switch_in_range c = switch_within _ _ c.if-number-eq-OPERATOR_SWITCH.true c.requires.value

pub returns-then-number-eq-OPERATOR_SWITCH : goal.returns-then-number-eq-OPERATOR_SWITCH
returns-then-number-eq-OPERATOR_SWITCH c = λ s h. rw (switch_set s c.args.number c.args.value c.if-number-eq-OPERATOR_SWITCH.true)
    (record { bank = h.bank; voice = h.voice; switch = refl; bend = h.bend; wheel = h.wheel; pedal = h.pedal; next = h.next; lfo = h.lfo; slots = h.slots })

pub returns-else-number-eq-OPERATOR_SWITCH : goal.returns-else-number-eq-OPERATOR_SWITCH
returns-else-number-eq-OPERATOR_SWITCH c = λ s h.
    let ne : c.args.number ≢ 155 = c.if-number-eq-OPERATOR_SWITCH.false in
    let accepted = on_ok _ (c.set.ensures.accepted.1 c.requires.value) c.set.ensures.changed in
    rw (number_set s c.args.number c.args.value ne)
    (record {
      bank = h.bank;
      voice = accepted ∙ ap (λ v. set v c.args.number c.args.value) h.voice;
      switch = h.switch;
      bend = h.bend;
      wheel = h.wheel;
      pedal =
          h.pedal;
      next = h.next;
      lfo = h.lfo;
      slots = h.slots;
    })
