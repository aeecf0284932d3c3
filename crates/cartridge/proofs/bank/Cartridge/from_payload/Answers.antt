-- Each slot holds the packed form of what its bytes unpack to.
use Rattle.std.proofs.Common.{◌≢◌, ◌∙◌, length, arith, ap, sym, subst, below_more}
use Rattle.std.proofs.lemmas.List.{with_items_is}
use Rattle.cartridge.specs.Cartridge.{slot_bytes, IsCartridge, UnpacksAll}
use Rattle.cartridge.proofs.Voices.{all_unpacked, unpacked_is, unpacks_all, voices_are, packs_own, is_cartridge}
use Rattle.cartridge.proofs.bank.Cartridge.from_payload.Goals as goal

pub loop-slot-preserved : goal.loop-slot-preserved
loop-slot-preserved c =
    let whole = with_items_is c.loop-slot.packed c.write.new.packed (omega arith) in
    let held = unpacked_is _ _ (rw (c.read.ensures) at c.unpack-voice.ensures.unpacked) in
    record {
      size = ap length whole ∙ omega arith;
      filled = below_more _ _
          (λ k h.
          let ne : k ≢ c.loop-slot.slot = omega arith in
          let kept = c.write.ensures.others k (omega arith) ne ∙ ap (λ ys. slot_bytes ys k) c.deref_mut.ensures.value in
          rw (whole, kept) (c.loop-slot.invariant.filled k h))
          (rw (whole, c.write.ensures.own, held) c.pack.ensures.packed);
    }

pub invariant_of-result : goal.invariant_of-result
invariant_of-result c =
    let all = all_unpacked c.args.payload.now c.loop-slot.packed.items c.loop-slot.invariant.size (λ k l. c.loop-slot.invariant.filled k (omega arith)) in
    packs_own _ _ all

pub returns-clause-unpacked : goal.returns-clause-unpacked
returns-clause-unpacked c =
    let all = all_unpacked c.args.payload.now c.loop-slot.packed.items c.loop-slot.invariant.size (λ k l. c.loop-slot.invariant.filled k (omega arith)) in
    subst (UnpacksAll c.args.payload.now) (sym (voices_are _ _ all)) (unpacks_all c.args.payload.now)

pub returns-clause-back : goal.returns-clause-back
returns-clause-back c = λ voices p.
    let all = all_unpacked c.args.payload.now c.loop-slot.packed.items c.loop-slot.invariant.size (λ k l. c.loop-slot.invariant.filled k (omega arith)) in
    voices_are _ _ all ∙ voices_are voices c.args.payload.now p

pub returns-clause-cartridge : goal.returns-clause-cartridge
returns-clause-cartridge c =
    let all = all_unpacked c.args.payload.now c.loop-slot.packed.items c.loop-slot.invariant.size (λ k l. c.loop-slot.invariant.filled k (omega arith)) in
    subst IsCartridge (sym (voices_are _ _ all)) (is_cartridge _ _ all)
