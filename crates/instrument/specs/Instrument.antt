-- The state that a running instrument is in.
use Rattle.std.specs.Prelude.{◌≡◌}
use Rattle.block_rates.specs.LfoStates.{IsLfo}
use Rattle.instrument.specs.declared.instrument.Instrument.{Instrument}
use Rattle.instrument.specs.State.{State}
use Rattle.instrument.specs.Running.{AreSlots}

-- the instrument stands for this state
pub record IsIn (i : Instrument) (s : State) : Type 0 where
  pub bank : i.bank ≡ s.bank
  pub voice : i.voice ≡ s.voice
  pub switch : i.switch ≡ s.switch
  pub bend : i.bend ≡ s.bend
  pub wheel : i.wheel ≡ s.wheel
  pub pedal : i.is_pedal_down ≡ s.is_pedal_down
  pub next : i.next ≡ s.next
  pub lfo : IsLfo i.lfo s.lfo s.steps
  pub slots : AreSlots i.slots s.slots
