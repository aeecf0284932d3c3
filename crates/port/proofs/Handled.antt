-- What comes of one message, by what the line and the reading of it answered.
use Rattle.std.proofs.Common.{◌≡◌, ℕ, List, [], ◌∷◌, Option, Some, None, refl}
use Rattle.midi_stream.specs.declared.message.MidiMessage.{MidiMessage}
use Rattle.sysex_frame.specs.declared.frame.FrameFault.{FrameFault}
use Rattle.velocity_map.specs.declared.curve.Curve.{Curve}
use Rattle.command_set.specs.Command.{CommandData}
use Rattle.command_set.specs.Message.{MessageOutcome, Yields, PassedOver, Overlong, Faulty}
use Rattle.command_queue.specs.Ends.{SendView, accepted, entry_of}
use Rattle.port.specs.declared.kept.Kept.{Kept}
use Rattle.port.specs.declared.kept.Kept.TheVariants as kept
use Rattle.port.specs.declared.fed.PortStop.TheVariants.{All}
use Rattle.port.specs.Handling.{IsDoneOrKept, KeepsThis, KeepsNoMessage}

pub sent_done :
    (curve : Curve) (bytes : List ℕ) (command : CommandData) (keeps : Option Kept) (old new : SendView) → keeps ≡ None
    → new ≡ accepted old (entry_of old 0 command)
    → IsDoneOrKept curve bytes (Yields command) keeps old new (record { used = 0; sent = 1; passed_over = 0; refused = 0; stop = All })
sent_done curve bytes command keeps old new e n = rw e (record {
  now = Yields command ∷ [];
  splits = refl;
  handles = record { end_is = n; sent_is = refl; passed_over_is = refl; refused_is = refl };
  stops = tt;
})

pub passed_done :
    (curve : Curve) (bytes : List ℕ) (outcome : MessageOutcome) (keeps : Option Kept) (end : SendView) → keeps ≡ None → outcome ≡ PassedOver
    → IsDoneOrKept curve bytes outcome keeps end end (record { used = 0; sent = 0; passed_over = 1; refused = 0; stop = All })
passed_done curve bytes outcome keeps end e t = rw (e, t) (record {
  now = PassedOver ∷ [];
  splits = refl;
  handles = record { end_is = refl; sent_is = refl; passed_over_is = refl; refused_is = refl };
  stops = tt;
})

pub overlong_done :
    (curve : Curve) (bytes : List ℕ) (outcome : MessageOutcome) (keeps : Option Kept) (end : SendView) (count : ℕ) → keeps ≡ None → outcome ≡ Overlong count
    → IsDoneOrKept curve bytes outcome keeps end end (record { used = 0; sent = 0; passed_over = 0; refused = 1; stop = All })
overlong_done curve bytes outcome keeps end count e t = rw (e, t) (record {
  now = Overlong count ∷ [];
  splits = refl;
  handles = record { end_is = refl; sent_is = refl; passed_over_is = refl; refused_is = refl };
  stops = tt;
})

pub faulty_done :
    (curve : Curve) (bytes : List ℕ) (outcome : MessageOutcome) (keeps : Option Kept) (end : SendView) (fault : FrameFault) → keeps ≡ None
    → outcome ≡ Faulty fault
    → IsDoneOrKept curve bytes outcome keeps end end (record { used = 0; sent = 0; passed_over = 0; refused = 1; stop = All })
faulty_done curve bytes outcome keeps end fault e t = rw (e, t) (record {
  now = Faulty fault ∷ [];
  splits = refl;
  handles = record { end_is = refl; sent_is = refl; passed_over_is = refl; refused_is = refl };
  stops = tt;
})

pub this_if_none : (keeps : Option Kept) (message : MidiMessage) → KeepsNoMessage keeps → KeepsThis keeps message
this_if_none None message k = tt
this_if_none (Some (kept.Command command)) message k = tt
this_if_none (Some (kept.Message held)) message k = absurd k
