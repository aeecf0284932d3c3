use Rattle.std.proofs.Common.{length-set, arith, rules}
use Rattle.instrument.proofs.Begun.{begun_none, begun_next, begun_all}
use Rattle.instrument.proofs.slots.begin_all.Goals as goal

pub loop-i-init : goal.loop-i-init
loop-i-init c = record { len = c.told-slots; blocks_len = search rules; begun = λ ws h. begun_none _ ws _ _ h }

pub loop-i-preserved : goal.loop-i-preserved
loop-i-preserved c =
    let i = c.loop-i.i in
    let v = c.loop-i.invariant in
    let lt = c.loop-i-test.true in
    record {
      len = simp length-set v.len;
      blocks_len = simp length-set v.blocks_len;
      begun = λ ws h. begun_next i _ ws _ _ _ _ v.len v.blocks_len lt (v.begun ws h) (c.begin_block.ensures (ws i) ((v.begun ws h).rest i _ (omega arith) lt));
    }

pub returns : goal.returns
returns c = λ ws h. begun_all _ _ ws _ _ (omega arith) (c.loop-i.invariant.begun ws h)
