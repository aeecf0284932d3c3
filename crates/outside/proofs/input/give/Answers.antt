use Rattle.std.proofs.Common.{◌≡◌, ◌⊎◌, ◌≤◌, inl, inr, sym, ◌∙◌, ap, ◌+◌, ◌++◌, List, ℕ, [], length, take, drop, arith}
use Rattle.std.proofs.lemmas.List.{take-append-drop, drop-drop}
use Rattle.std.proofs.Math.ListN.{drop_of_length-le}
use Rattle.outside.proofs.input.give.Goals as goal

pub returns-clause-bytes : goal.returns-clause-bytes
returns-clause-bytes c =
    let count : ℕ = c.copy_from-count.result in
    let rest : List ℕ = drop c.args.at.now c.args.bytes.now in
    sym (take-append-drop count rest)
    ∙ ap (λ (l : List ℕ). l ++ drop count rest) (sym c.copy_from-count.ensures.bytes.bytes)
    ∙ ap (λ (l : List ℕ). take count c.copy_from-count.new.into ++ l) (drop-drop count c.args.at.now c.args.bytes.now)

-- nothing was copied: there was no room, or the bytes had ended
none_left : (old new : List ℕ) (bytes : List ℕ) (at count : ℕ) → length new ≡ length old → count ≡ 0
    → (length new ≡ 0) ⊎ (length bytes ≤ at) → (length old ≡ 0) ⊎ (drop (at + count) bytes ≡ [])
none_left old new bytes at count same none (inl empty) = inl (sym same ∙ empty)
none_left old new bytes at count same none (inr past) = inr (drop_of_length-le bytes (omega (arith)))

pub returns-clause-ended : goal.returns-clause-ended
returns-clause-ended c none =
    none_left c.args.into.now c.copy_from-count.new.into c.args.bytes.now c.args.at.now c.copy_from-count.result (c.copy_from-count.auto.into) none
    (c.copy_from-count.ensures.bytes.ended.0 none)
