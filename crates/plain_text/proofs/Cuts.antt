-- A text cut at its first byte of one code.
use Rattle.std.proofs.Common.{◌≡◌, ◌≢◌, ℕ, ◌+◌, ◌<◌, ◌≤◌, List, [], ◌∷◌, take, drop, length, ◌-◌, length-drop, refl, ap, subst, arith, ltb-true, ltb-false}
use Rattle.std.specs.Prelude.{◌==◌, cond, Bool, true, false, Some, None}
use Rattle.std.specs.List.{position, position_or_len}
use Rattle.std.proofs.lemmas.List.Splits.{slice_split_first, slice_split_none, length-slice_split}
use Rattle.std.proofs.lemmas.List.Sums.{fails_before_first}
use Rattle.std.proofs.lemmas.List.{take_all}
use Rattle.std.proofs.lemmas.List.Elements.{All-from_get_or}
use Rattle.plain_text.specs.Split.{split}

record IsFound (t : Bool) (n at : ℕ) : Type 0 where
  there : t ≡ true
  is : n ≡ at

found : (t : Bool) (n at : ℕ) → cond t (Some n) None ≡ Some at → IsFound t n at
found true n at e = record { there = refl; is = cc }
found false n at e = absurd (cc)

missed : (t : Bool) (n : ℕ) → cond t (Some n) None ≡ None → t ≡ false
missed true n e = absurd (cc)
missed false n e = refl

pub cut_found : (code at : ℕ) (text : List ℕ) → position (λ byte. byte == code) text ≡ Some at
    → (at < length text) × (split code text ≡ take at text ∷ split code (drop (at + 1) text))
cut_found code at text e =
    let f = found _ _ at e in
    let below : position_or_len (λ byte. byte == code) text < length text = ltb-true _ _ f.there in (
      subst (λ (n : ℕ). n < length text) f.is below,
      subst (λ (n : ℕ). split code text ≡ take n text ∷ split code (drop (n + 1) text)) f.is (slice_split_first (λ byte. byte == code) text 0 below),
    )

pub cut_missed : (code : ℕ) (text : List ℕ) → position (λ byte. byte == code) text ≡ None → split code text ≡ text ∷ []
cut_missed code text e =
    let past : length text ≤ position_or_len (λ byte. byte == code) text = ltb-false _ _ (missed _ _ e) in
    slice_split_none (λ byte. byte == code) text
    (All-from_get_or (λ byte. (byte == code) ≡ false) text 0 (λ k below. fails_before_first (λ byte. byte == code) text k 0 (omega arith)))

-- there is one part at least
pub split_some : (code : ℕ) (text : List ℕ) → split code text ≢ []
split_some code text e =
    let count = length-slice_split (λ byte. byte == code) text in
    let none : length (split code text) ≡ 0 = ap length e in
    absurd (omega arith)

-- all that is left of a text
pub rest_whole : (bytes : List ℕ) (done : ℕ) → take (length bytes - done) (drop done bytes) ≡ drop done bytes
rest_whole bytes done = take_all _ _ (omega (arith, length-drop done bytes))
