-- The bytes of the other cartridge's slot hold its voice.
use Rattle.std.proofs.Common.{◌∙◌, set, ap}
use Rattle.cartridge.proofs.Voices.{packs_itself, unpacked_packs}
use Rattle.cartridge.proofs.bank.Cartridge.copy_from.Goals as goal

pub put-requires-clause-packed : goal.put-requires-clause-packed
put-requires-clause-packed c = packs_itself _ _ c.slot.ensures.packed

pub returns-clause-voices : goal.returns-clause-voices
returns-clause-voices c = c.put.ensures.voices ∙ ap (λ v. set c.args.self.now c.args.to v) (unpacked_packs _ _ c.slot.ensures.packed)
