-- What segments of one kind have to be, so that stages can be made of them.
use Rattle.std.specs.Prelude.{◌≡◌, ℕ, suc, true, false}
use Rattle.block_rates.specs.Stages.{Motion}

-- what makes stages of a kind run on step by step
pub record RunsOn {S X : Type 0} (motion : Motion S X) : Type 0 where
  pub begins : (s : S) (x : X) → motion.go s x 0 ≡ x
  pub arrives : (s : S) (x : X) → motion.is_there s x ≡ true → x ≡ motion.target s
  pub stays : (s : S) (m : ℕ) → motion.go s (motion.target s) m ≡ motion.target s
  pub goes_on :
      (s : S) (x : X) (m : ℕ) → motion.is_there s (motion.go s x 1) ≡ false
      → motion.go s x (suc m) ≡ motion.go s (motion.go s x 1) m

-- what holds of each of four stages
abbrev pub AllFour : {S : Type 0} → (S → Type 0) → S → S → S → S → Type 0
AllFour P first second third fourth = P first × P second × P third × P fourth
