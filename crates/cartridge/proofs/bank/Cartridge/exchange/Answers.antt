-- The bytes of both slots hold their voices.
use Rattle.std.proofs.Common.{◌∙◌, set, ap}
use Rattle.cartridge.specs.Cartridge.{unpacked, voice_at}
use Rattle.cartridge.proofs.Voices.{packs_itself, unpacked_packs}
use Rattle.cartridge.proofs.bank.Cartridge.exchange.Goals as goal

pub put-requires-clause-packed : goal.put-requires-clause-packed
put-requires-clause-packed c = packs_itself _ _ c.slot-second.ensures.packed

pub put-requires-2-clause-packed : goal.put-requires-2-clause-packed
put-requires-2-clause-packed c = packs_itself _ _ c.slot-first.ensures.packed

pub returns-clause-voices : goal.returns-clause-voices
returns-clause-voices c =
    let first = unpacked_packs _ _ c.slot-first.ensures.packed in
    let second = unpacked_packs _ _ c.slot-second.ensures.packed in
    c.put-2.ensures.voices
    ∙ (ap (λ vs. set vs c.args.b (unpacked c.slot-first.result)) (c.put.ensures.voices ∙ ap (λ v. set c.args.self.now c.args.a v) second)
    ∙ ap (λ v. set (set c.args.self.now c.args.a (voice_at c.args.self.now c.args.b)) c.args.b v) first)
