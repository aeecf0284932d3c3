use Rattle.std.proofs.Common.{refl}
use Rattle.std.proofs.lemmas.Bool.{lt-ltb, le-ltb}
use Rattle.instrument.proofs.instrument.Instrument.pedal.Goals as goal

pub returns-then-value-lt64 : goal.returns-then-value-lt64
returns-then-value-lt64 c = λ s h. rw (lt-ltb c.args.value 64 c.if-value-lt64.true)
    (record {
      bank = h.bank;
      voice = h.voice;
      switch = h.switch;
      bend = h.bend;
      wheel = h.wheel;
      pedal = refl;
      next = h.next;
      lfo = h.lfo;
      slots =
          c.pedal_up_all.ensures s.slots h.slots;
    })

pub returns-else-value-lt64 : goal.returns-else-value-lt64
returns-else-value-lt64 c = λ s h. rw (le-ltb c.args.value 64 c.if-value-lt64.false)
    (record { bank = h.bank; voice = h.voice; switch = h.switch; bend = h.bend; wheel = h.wheel; pedal = refl; next = h.next; lfo = h.lfo; slots = h.slots })
