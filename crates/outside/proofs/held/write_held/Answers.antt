use Rattle.std.proofs.Common.{List, ℕ, ◌++◌, ◌∙◌, ap, sym, length, length-drop, take, arith}
use Rattle.std.proofs.lemmas.List.{take-append-drop}
use Rattle.outside.proofs.Shelves.{rest_whole}
use Rattle.outside.proofs.Holding.{appends_on, appends_kept}
use Rattle.outside.proofs.held.write_held.Goals as goal

pub loop-done-preserved : goal.loop-done-preserved
loop-done-preserved g c =
    let i = c.loop-done.invariant in
    let e = c.in-Ok.ensures in
    let items = c.loop-done.bytes.items in
    let slice = c.as_slice.result.now in
    let same = c.as_slice.ensures.value in
    record {
      bound = omega (arith, e.bound, ap length (rest_whole slice c.loop-done.done), length-drop c.loop-done.done slice, ap length same, i.bound);
      same = i.same;
      passed = appends_on _ _ _ items slice c.loop-done.done c.in-Ok.count same i.passed e.bytes;
    }

pub returns-in-Err-clause-passed : goal.returns-in-Err-clause-passed
returns-in-Err-clause-passed g c =
    let i = c.loop-done.invariant in
    let items = c.loop-done.bytes.items in
    let done = c.loop-done.done in (
      take done items,
      appends_kept _ _ _ (take done items) i.passed c.in-Err.ensures.bytes,
      sym i.same ∙ sym (take-append-drop done items) ∙ ap (λ (rest : List ℕ). take done items ++ rest) (sym c.keep_from-in-Err.ensures),
    )
