use Rattle.std.proofs.Common.{◌≡◌, ◌∙◌, ap, w32, to_z, ◌+◌, length-set, arith, sym, subst}
use Rattle.std.proofs.lemmas.Int.{to_z-of_z}
use Rattle.note_voice.specs.Running.{AreOperators}
use Rattle.note_voice.proofs.Blocks.{passed_none, passed_next, passed_all}
use Rattle.note_voice.proofs.operators.tune_all.Goals as goal

pub returns-then-shift-before : goal.returns-then-shift-before
returns-then-shift-before c =
    let fb = c.ranges.before in
    let fs = c.ranges.shift in
    let e : c.args.before ≡ c.args.shift = sym (to_z-of_z w32 c.args.before fb) ∙ ap (to_z w32) (sym c.if-shift-before.true) ∙ to_z-of_z w32 c.args.shift fs in
    λ n h. subst (λ s. AreOperators c.args.operators.now s n) e h

pub loop-k-init : goal.loop-k-init
loop-k-init c = record { len = c.told-operators; states = λ n h. passed_none _ _ n n _ h }

pub loop-k-preserved : goal.loop-k-preserved
loop-k-preserved c =
    let k = c.loop-k.k in
    let v = c.loop-k.invariant in
    let lt = c.loop-k-test.true in
    let fb = c.ranges.before in
    let fs = c.ranges.shift in
    record {
      len = simp length-set v.len;
      states = λ n h. passed_next k _ _ n n _ _ v.len lt (v.states n h) (c.tune.ensures n _ (k + 1) ((v.states n h).rest k _ (omega arith) lt));
    }

pub returns : goal.returns
returns c =
    let fb = c.ranges.before in
    let fs = c.ranges.shift in
    let s = simp to_z-of_z at c.loop-k.invariant.states in
    λ n h. passed_all _ _ _ n n _ (omega arith) (s n h)
