use Rattle.std.proofs.Common.{◌≤◌, ◌^◌, ap, pos, ◌+ℤ◌, get_or, SFits, w32, w64, unsigned_abs, below_more, arith, rules}
use Rattle.std.proofs.lemmas.Int.{to_z-of_z}
use Rattle.note_voice.proofs.Sums.{IsAddedUpTo-none, IsAddedUpTo-next, IsAddedUpTo-all, IsAdded-small, sum_fits}
use Rattle.note_voice.proofs.mix.add.Goals as goal

pub overflow_add-mix : goal.overflow_add-mix
overflow_add-mix c =
    let j = c.loop-j.j in
    let r = c.loop-j.invariant.added.rest j (omega arith) in
    let f1 : SFits w64 c.from.result = record { sfits = c.from.type_inv } in
    let f2 : SFits w64 (get_or c.loop-j.mix j (pos 0)) = search rules in
    let f3 : SFits w32 (get_or c.args.bus.now j (pos 0)) = search rules in
    let h : unsigned_abs (get_or c.args.mix.now j (pos 0)) ≤ 2 ^ 40 = c.requires j (omega arith) in
    simp to_z-of_z (rw (r, simp to_z-of_z at c.from.ensures) (sum_fits _ _ h f3))

pub loop-j-init : goal.loop-j-init
loop-j-init c = record { added = IsAddedUpTo-none _ _ c.told-mix; fits = λ j lt. absurd (omega (arith, lt)) }

pub loop-j-preserved : goal.loop-j-preserved
loop-j-preserved c =
    let j = c.loop-j.j in
    let r = c.loop-j.invariant.added.rest j (omega arith) in
    let f1 : SFits w64 c.from.result = record { sfits = c.from.type_inv } in
    let f2 : SFits w64 (get_or c.loop-j.mix j (pos 0)) = search rules in
    let f3 : SFits w32 (get_or c.args.bus.now j (pos 0)) = search rules in
    let h : unsigned_abs (get_or c.args.mix.now j (pos 0)) ≤ 2 ^ 40 = c.requires j (omega arith) in
    let e = simp to_z-of_z at c.from.ensures in
    let f4 : SFits w64 (get_or c.loop-j.mix j (pos 0) +ℤ c.from.result) = rw (r, e) (sum_fits _ _ h f3) in
    record {
      added = IsAddedUpTo-next j _ _ _ _ c.loop-j-test.true c.loop-j.invariant.added (simp to_z-of_z (rw r (ap (λ z. get_or c.args.mix.now j (pos 0) +ℤ z) e)));
      fits = below_more _ _ c.loop-j.invariant.fits f3;
    }

pub returns-clause-samples : goal.returns-clause-samples
returns-clause-samples c = IsAddedUpTo-all _ _ _ _ (omega arith) c.loop-j.invariant.added

pub returns-clause-small : goal.returns-clause-small
returns-clause-small c = λ b s. IsAdded-small _ _ _ b (IsAddedUpTo-all _ _ _ _ (omega arith) c.loop-j.invariant.added) (λ j lt.
    c.loop-j.invariant.fits j (omega arith)) s
