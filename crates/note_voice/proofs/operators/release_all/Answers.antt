use Rattle.std.proofs.Common.{◌+◌, length-set, arith}
use Rattle.note_voice.specs.Note.{note_released}
use Rattle.note_voice.proofs.Blocks.{passed_none, passed_next, passed_all}
use Rattle.note_voice.proofs.operators.release_all.Goals as goal

pub loop-k-init : goal.loop-k-init
loop-k-init c = record { len = c.told-operators; states = λ n shift h. passed_none shift shift n (note_released n) _ h }

pub loop-k-preserved : goal.loop-k-preserved
loop-k-preserved c =
    let k = c.loop-k.k in
    let v = c.loop-k.invariant in
    let lt = c.loop-k-test.true in
    record {
      len = simp length-set v.len;
      states = λ n shift h. passed_next k shift shift n (note_released n) _ _ v.len lt (v.states n shift h)
          (c.release.ensures n shift (k + 1) ((v.states n shift h).rest k _ (omega arith) lt));
    }

pub returns : goal.returns
returns c = λ n shift h. passed_all _ shift shift n (note_released n) _ (omega arith) (c.loop-k.invariant.states n shift h)
