use Rattle.std.proofs.Common.{refl}
use Rattle.instrument.proofs.instrument.Instrument.control.Goals as goal

pub returns-in-1 : goal.returns-in-1
returns-in-1 c = λ s h. rw c.in-1.is
    (record { bank = h.bank; voice = h.voice; switch = h.switch; bend = h.bend; wheel = refl; pedal = h.pedal; next = h.next; lfo = h.lfo; slots = h.slots })

pub returns-in-123 : goal.returns-in-123
returns-in-123 c = λ s h. rw c.in-123.is
    (record {
      bank = h.bank;
      voice = h.voice;
      switch = h.switch;
      bend = h.bend;
      wheel = h.wheel;
      pedal = h.pedal;
      next = h.next;
      lfo = h.lfo;
      slots =
          c.all_notes_off.ensures s.slots h.slots;
    })
