use Rattle.std.proofs.Common.{ℕ, ◌+◌, ◌*◌, ◌^◌, ◌<◌, ◌≤◌, ◌≡◌, subst, arith}
use Rattle.note_voice.specs.Mix.{IsAdded}
use Rattle.instrument.specs.Blocks.{sum_to}
use Rattle.instrument.proofs.Sums.{IsSmall-more, sum_none, sum_next}
use Rattle.instrument.proofs.blocks.run_all.Goals as goal

pub sound_routed-requires : goal.sound_routed-requires
sound_routed-requires c = let lt = c.loop-k-test.true in IsSmall-more _ _ _ (omega (arith, lt)) c.loop-k.invariant.small

pub loop-k-init : goal.loop-k-init
loop-k-init c = record { added = λ y o. sum_none y _ c.told-mix; small = IsSmall-more _ _ _ (omega arith) c.requires }

pub loop-k-preserved : goal.loop-k-preserved
loop-k-preserved c =
    let v = c.loop-k.invariant in
    let k = c.loop-k.k in
    let lt = c.loop-k-test.true in
    let e = c.index-blocks-k.result in
    record {
      added = λ y o. sum_next y k _ _ _ _ (v.added y o) (c.sound_routed.ensures.samples _ (c.run_paths.ensures k e e lt)) (o k e lt);
      small = IsSmall-more _ _ _ (omega arith) (c.sound_routed.ensures.small _ v.small);
    }

pub returns-clause-left : goal.returns-clause-left
returns-clause-left c = λ i d e lt. (c.run_paths.ensures i e d lt).feedback_state

pub returns-clause-samples : goal.returns-clause-samples
returns-clause-samples c = λ y o.
    let e : c.loop-k.k ≡ 16 = omega arith in
    subst (λ n. IsAdded (sum_to y n) c.args.mix.now c.loop-k.mix) e (c.loop-k.invariant.added y o)
