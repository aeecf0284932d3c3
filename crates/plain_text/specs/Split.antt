-- Texts split at single bytes, and put together again.
use Rattle.std.specs.Prelude.{ℕ, ◌==◌, List, [], ◌∷◌, ◌++◌}
use Rattle.std.specs.List.{slice_split}

-- the parts of a text that single bytes of this code separate
abbrev pub split : ℕ → List ℕ → List (List ℕ)
split code text = slice_split (λ byte. byte == code) text

-- a word and further ones, with one space between two
abbrev pub spaced : List ℕ → List (List ℕ) → List ℕ
spaced word [] = word
spaced word (next ∷ more) = word ++ 32 ∷ spaced next more
