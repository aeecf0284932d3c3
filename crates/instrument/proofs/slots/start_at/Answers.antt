use Rattle.instrument.proofs.AllSlots.{occupied_slots}
use Rattle.instrument.proofs.slots.start_at.Goals as goal

pub returns : goal.returns
returns c = λ ws h. occupied_slots _ ws c.args.at _ _ c.told-slots h c.start.ensures
