use Rattle.std.proofs.Common.{◌≡◌, ◌≤◌, sym, ◌∙◌, ap, subst, ◌++◌, List, ℕ, length, take, drop}
use Rattle.std.proofs.lemmas.List.{take-append-drop, drop-append-le}
use Rattle.outside.proofs.input.MemInputInput.read.Goals as goal

-- what was written into the first part of a buffer, behind the bytes that were given, is as it was
part_rest : (old new : List ℕ) (room count : ℕ) → length new ≡ length (take room old) → count ≤ length (take room old)
    → drop count new ≡ drop count (take room old) → drop count (new ++ drop room old) ≡ drop count old
part_rest old new room count same within rest =
    drop-append-le count new (drop room old) (subst (λ (n : ℕ). count ≤ n) (sym same) within)
    ∙ ap (λ (l : List ℕ). l ++ drop room old) rest
    ∙ sym (drop-append-le count (take room old) (drop room old) within)
    ∙ ap (drop count) (take-append-drop room old)

pub returns-clause-rest : goal.returns-clause-rest
returns-clause-rest c =
    part_rest c.args.into.now c.give.new.into c.room_for-room.result c.give.result c.give.auto.into c.give.ensures.count c.give.ensures.rest
