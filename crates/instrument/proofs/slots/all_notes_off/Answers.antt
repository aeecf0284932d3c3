use Rattle.std.proofs.Common.{length-set, arith}
use Rattle.instrument.proofs.AllSlots.{AreSlotsUpTo-none, AreSlotsUpTo-next, AreSlotsUpTo-all}
use Rattle.instrument.proofs.slots.all_notes_off.Goals as goal

pub loop-i-init : goal.loop-i-init
loop-i-init c = record { len = c.told-slots; slots = λ ws h. AreSlotsUpTo-none _ ws _ h }

pub loop-i-preserved : goal.loop-i-preserved
loop-i-preserved c =
    let i = c.loop-i.i in
    let v = c.loop-i.invariant in
    record {
      len = simp length-set v.len;
      slots = λ ws h. AreSlotsUpTo-next i _ ws _ _ v.len c.loop-i-test.true (v.slots ws h)
          (c.release_if_sounding.ensures (ws i) ((v.slots ws h).rest i _ (omega arith) c.loop-i-test.true));
    }

pub returns : goal.returns
returns c = λ ws h. AreSlotsUpTo-all _ _ ws _ (omega arith) (c.loop-i.invariant.slots ws h)
