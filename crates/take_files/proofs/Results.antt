-- Which fault a result has.
use Rattle.std.proofs.Common.{◌≡◌, ℕ, Result, Err, sym, ◌∙◌, ap, subst}
use Rattle.take_files.specs.declared.read.OrderKind.{OrderKind}
use Rattle.take_files.specs.declared.read.OrderFault.{OrderFault}
use Rattle.take_files.specs.declared.read.OrderFault.TheVariants.{Refused}

-- one fault of results of two types
pub same_fault : {A B E : Type 0} (x y : E) → ◌≡◌ {A = Result A E} (Err x) (Err y) → ◌≡◌ {A = Result B E} (Err x) (Err y)
same_fault x y e = let same : x ≡ y = cc in ap Err same

-- what holds of the fault that was answered
pub answered : {A : Type 0} (F : ℕ → OrderKind → Type 0) (a b c : ℕ) (k m : OrderKind) → a ≡ b
    → ◌≡◌ {A = Result A OrderFault} (Err (Refused a k)) (Err (Refused c m)) → F b k → F c m
answered F a b c k m is e h =
    let number : a ≡ c = cc in
    let kind : k ≡ m = cc in
    subst (λ (n : ℕ). F n m) (sym is ∙ number) (subst (λ (x : OrderKind). F b x) kind h)
