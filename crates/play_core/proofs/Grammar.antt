-- Words that ask for nothing.
use Rattle.std.proofs.Common.{◌≡◌, ℕ, ◌<◌, List, [], ◌∷◌, length, refl, sym, arith}
use Rattle.std.specs.Prelude.{Bool, true, false, ◌&&◌, None}
use Rattle.play_core.specs.Words.{requested_by}

pub true_and : (x y : Bool) → x ≡ true → y ≡ (x && y)
true_and true y is = refl
true_and false y is = absurd (cc)

pub few_words : (words : List (List ℕ)) → length words < 4 → requested_by words ≡ None
few_words [] few = refl
few_words (a ∷ []) few = refl
few_words (a ∷ b ∷ []) few = refl
few_words (a ∷ b ∷ c ∷ []) few = refl
few_words (a ∷ b ∷ c ∷ d ∷ more) few = absurd (omega arith)
