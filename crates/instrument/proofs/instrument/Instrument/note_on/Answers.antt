use Rattle.std.proofs.Common.{◌∙◌, ◌≡◌, sym, refl, None}
use Rattle.instrument.specs.State.{free_slot}
use Rattle.instrument.proofs.States.{apply_free, apply_full, fresh_slots, pressed_is, none_is}
use Rattle.instrument.proofs.instrument.Instrument.note_on.Goals as goal

pub returns : goal.returns
returns c = λ s h.
    rw (apply_free s c.args.channel c.args.key c.args.velocity c.in-Some.free (sym (c.in-Some.ensures.slot s h)))
    (record {
      bank = h.bank;
      voice = h.voice;
      switch = h.switch;
      bend = h.bend;
      wheel = h.wheel;
      pedal = h.pedal;
      next = refl;
      lfo = pressed_is _ s _ h.voice (c.key_down.ensures _ 0 (c.assign.ensures s.lfo s.steps h.lfo));
      slots = fresh_slots _ s _ _ _ _ _ _ h.voice h.switch (c.start_at.ensures s.slots h.slots);
    })

pub returns-in_default : goal.returns-in_default
returns-in_default c = λ s h.
    let e : free_slot s ≡ None = sym (c.free_slot.ensures.slot s h) ∙ none_is _ c.in_default.not-Some in
    rw (apply_full s c.args.channel c.args.key c.args.velocity e) h
