use Rattle.std.proofs.Common.{◌+◌, SFits, w32, length-set, arith, rules}
use Rattle.std.proofs.lemmas.Int.{to_z-of_z}
use Rattle.note_voice.specs.Note.{after_block}
use Rattle.note_voice.proofs.Blocks.{audible_is, passed_none, passed_next, passed_all, audible_none, audible_next, audible_all, gains_none, gains_next}
use Rattle.note_voice.proofs.Blocks.{gains_all}
use Rattle.note_voice.proofs.operators.pass_all.Goals as goal

pub loop-k-init : goal.loop-k-init
loop-k-init c = record {
  len = c.told-operators;
  ops_len = search rules;
  gains = gains_none _;
  states = λ n m shift h o. passed_none shift shift n (after_block n m) _ o;
  blocks = λ n m shift h o. audible_none _ _ _;
}

pub loop-k-preserved : goal.loop-k-preserved
loop-k-preserved c =
    let k = c.loop-k.k in
    let v = c.loop-k.invariant in
    let lt = c.loop-k-test.true in
    let fl = c.ranges.lfo in
    record {
      len = simp length-set v.len;
      ops_len = simp length-set v.ops_len;
      gains = gains_next k _ _ v.ops_len lt v.gains c.if_on.ensures.gains;
      states = λ n m shift h o. passed_next k shift shift n (after_block n m) _ _ v.len lt (v.states n m shift h o)
          (c.pass-op.ensures.passed n m shift (k + 1) ((v.states n m shift h o).rest k _ (omega arith) lt) h.shift_is h.lfo_is h.lfo_depth_is);
      blocks = λ n m shift h o. audible_next k (after_block n m) _ _ _ v.ops_len lt (v.blocks n m shift h o)
          (audible_is _ _ _ _ _ n m _ _ h c.if_on.ensures.value (c.pass-op.ensures.block n m shift (k + 1) ((v.states n m shift h o).rest k _ (omega arith) lt)
          h.shift_is h.lfo_is h.lfo_depth_is));
    }

pub returns-clause-gains : goal.returns-clause-gains
returns-clause-gains c = gains_all _ _ (omega arith) c.loop-k.invariant.gains

pub returns-clause-blocks : goal.returns-clause-blocks
returns-clause-blocks c =
    let fl = c.ranges.lfo in
    let b = simp to_z-of_z at c.loop-k.invariant.blocks in
    λ n m shift h o. audible_all _ _ _ _ c.loop-k.invariant.ops_len (omega arith) (b n m shift h o)

pub returns-clause-passed : goal.returns-clause-passed
returns-clause-passed c =
    let fl = c.ranges.lfo in
    let s = simp to_z-of_z at c.loop-k.invariant.states in
    λ n m shift h o. passed_all _ shift shift n (after_block n m) _ (omega arith) (s n m shift h o)
