use Rattle.instrument.proofs.Begun.{slot_ended}
use Rattle.instrument.proofs.slot.Slot.end_block.Goals as goal

pub returns : goal.returns
returns c = λ b m w h q. slot_ended c.args.self.now _ b m c.args.feedback_state w c.end_block.ensures.stays_idle c.end_block.ensures.ended h q
