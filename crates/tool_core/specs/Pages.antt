-- For private functions and proofs: a report that is put page by page.
use Rattle.std.specs.Prelude.{◌≡◌, ◌⊎◌, ℕ, List, ◌++◌, Option, option_map}
use Rattle.outside.specs.Files.{said, SaidSome}

-- of the text so far some was put, and the rest waits on the page
pub record Holds (before now : Option (List ℕ)) (page text : List ℕ) : Type 0 where
  pub prefix : List ℕ
  pub was_put : now ≡ option_map (said prefix) before
  pub whole : prefix ++ page ≡ text

-- the output failed: a prefix of the text was put
abbrev pub FailsIn : List ℕ → Option (List ℕ) → Option (List ℕ) → Type 0
FailsIn text before now = (now ≡ before) ⊎ SaidSome text before now
