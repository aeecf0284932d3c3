-- A test of each of some names.
use Rattle.std.proofs.Common.{◌≡◌, arith, ℕ, zero, suc, ◌+◌, ◌<◌, List, [], ◌∷◌, ◌++◌, map, take, length, get_or, refl, sym, ◌∙◌, ap, subst, true, false}
use Rattle.std.specs.Prelude.{String, string_bytes, Bool, ◌&&◌}
use Rattle.std.specs.List.{list_all}
use Rattle.std.specs.declared.alloc.Global.{Global}
use Rattle.std.proofs.lemmas.Grind.{take_at_read}

and_false : (b : Bool) → b && false ≡ false
and_false true = refl
and_false false = refl

all_push : (p : List ℕ → Bool) (names : List (String Global)) (name : String Global)
    → list_all p (map string_bytes names) ≡ true → p (string_bytes name) ≡ true → list_all p (map string_bytes (names ++ name ∷ [])) ≡ true
all_push p [] name before here = rw here refl
all_push p (n ∷ names) name before here = both (p (string_bytes n)) (list_all p (map string_bytes names)) (list_all p (map string_bytes (names ++ name ∷ [])))
    before (λ rest. all_push p names name rest here)
  where
    both : (a b d : Bool) → a && b ≡ true → (b ≡ true → d ≡ true) → a && d ≡ true
    both true b d h along = along h
    both false b d h along = h

pub all_more : (p : List ℕ → Bool) (names : List (String Global)) (i : ℕ) (name : String Global)
    → i < length names → name ≡ get_or names i name
    → list_all p (map string_bytes (take i names)) ≡ true → p (string_bytes name) ≡ true
    → list_all p (map string_bytes (take (i + 1) names)) ≡ true
all_more p names i name below is before here =
    let one : take (i + 1) names ≡ take i names ++ name ∷ [] = (take_at_read names i name below).1
    ∙ ap (λ (n : String Global). take i names ++ n ∷ []) (sym is) in
    rw one (all_push p (take i names) name before here)

at_false : (p : List ℕ → Bool) (names : List (String Global)) (i : ℕ) (d : String Global)
    → i < length names → p (string_bytes (get_or names i d)) ≡ false → list_all p (map string_bytes names) ≡ false
at_false p [] i d below no_pass = absurd (omega arith)
at_false p (n ∷ names) zero d below no_pass = rw no_pass refl
at_false p (n ∷ names) (suc i) d below no_pass =
    ap (λ (b : Bool). p (string_bytes n) && b) (at_false p names i d (omega arith) no_pass) ∙ and_false (p (string_bytes n))

pub all_false : (p : List ℕ → Bool) (names : List (String Global)) (i : ℕ) (name : String Global)
    → i < length names → name ≡ get_or names i name → p (string_bytes name) ≡ false → list_all p (map string_bytes names) ≡ false
all_false p names i name below is no_pass = at_false p names i name below (subst (λ (n : String Global). p (string_bytes n) ≡ false) is no_pass)
