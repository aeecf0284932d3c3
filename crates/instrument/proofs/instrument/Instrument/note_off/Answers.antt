use Rattle.std.proofs.Common.{subst}
use Rattle.instrument.specs.State.{apply, key_up}
use Rattle.instrument.specs.Running.{AreSlots}
use Rattle.instrument.proofs.instrument.Instrument.note_off.Goals as goal

pub returns : goal.returns
unfolding apply
returns c = λ s h. record {
  bank = h.bank;
  voice = h.voice;
  switch = h.switch;
  bend = h.bend;
  wheel = h.wheel;
  pedal = h.pedal;
  next = h.next;
  lfo = h.lfo;
  slots = subst (λ p. AreSlots c.key_up_all.new.slots (λ i. key_up p c.args.channel c.args.key (s.slots i))) h.pedal (c.key_up_all.ensures s.slots h.slots);
}
