-- The lines of a generated script.
use Rattle.std.proofs.Common.{◌≡◌, ℕ, ◌+◌, List, [], ◌∷◌, ◌++◌, sym, ◌∙◌, ap}
use Rattle.std.specs.Prelude.{codes, decimal}
use Rattle.std.specs.List.{range_with_len, flat_map}
use Rattle.plain_text.specs.Split.{spaced}
use Rattle.command_set.specs.Command.{CommandData}
use Rattle.command_set.specs.Text.{text}
use Rattle.generator.specs.Generated.{due, command, line}
use Rattle.generator.proofs.Ranges.{flat_more}

pub line_is : (seed i n block : ℕ) (generated : CommandData) → block ≡ due seed i → generated ≡ command seed i → i ≡ n
    → spaced (decimal block) (text generated ∷ []) ++ 10 ∷ [] ≡ line seed n
line_is seed i n block generated at is same =
    ap (λ (b : ℕ). spaced (decimal b) (text generated ∷ []) ++ 10 ∷ []) at
    ∙ ap (λ (d : CommandData). spaced (decimal (due seed i)) (text d ∷ []) ++ 10 ∷ []) is
    ∙ ap (line seed) same

-- the first lines of a script
abbrev pub lines_of : ℕ → ℕ → List ℕ
lines_of seed n = codes "midi 1" ++ (10 ∷ flat_map (line seed) (range_with_len 0 n))

pub lines_more : (seed n : ℕ) (before next : List ℕ) → before ≡ lines_of seed n → next ≡ line seed n → before ++ next ≡ lines_of seed (n + 1)
lines_more seed n before next was is =
    ap (λ (prefix : List ℕ). prefix ++ next) was
    ∙ ap (λ (back : List ℕ). lines_of seed n ++ back) is
    ∙ ap (λ (all : List ℕ). codes "midi 1" ++ (10 ∷ all)) (sym (flat_more (line seed) n))
