use Rattle.operator_kernel.specs.Operator.{feedback_state_of}
use Rattle.algorithm_bus.specs.declared.note_block.NoteBlock.{NoteBlock}
use Rattle.std.proofs.Common.{ap, ◌∙◌, length-set, get_or, arith, rules}
use Rattle.instrument.proofs.Begun.{ended_none, ended_next, ended_all}
use Rattle.instrument.proofs.slots.end_all.Goals as goal

pub loop-i-init : goal.loop-i-init
loop-i-init c = record { len = c.told-slots; ended = λ bs m ws h q. ended_none m ws bs _ h }

pub loop-i-preserved : goal.loop-i-preserved
loop-i-preserved c =
    let i = c.loop-i.i in
    let v = c.loop-i.invariant in
    let lt = c.loop-i-test.true in
    let e = c.index-blocks-i.result in
    record {
      len = simp length-set v.len;
      ended = λ bs m ws h q. ended_next i m ws bs _ _ v.len lt (v.ended bs m ws h q)
          (c.end_block.ensures (get_or bs i e) m (ws i) ((v.ended bs m ws h q).rest i _ e (omega arith) lt) (q i e e lt));
    }

pub returns : goal.returns
returns c = λ bs m ws h q. ended_all _ m ws bs _ (omega arith) (c.loop-i.invariant.ended bs m ws h q)
