-- Numbers of 1 to 10 digits.
use Rattle.std.proofs.Common.{◌≡◌, ℕ, take, ◌<◌, ◌≤◌, List, length, get_or, refl, arith, lt-ltb, ltb-true, leb-true}
use Rattle.std.proofs.lemmas.Bool.{le-leb}
use Rattle.std.specs.Prelude.{Option, Some, None, Bool, true, false, ◌&&◌, nat_lt, nat_le, if◌then◌else◌}
use Rattle.std.specs.Str.{all_ascii_digits}
use Rattle.std.specs.Str.Parse.{digits_value}
use Rattle.std.proofs.lemmas.Str.Parse.{IsNumeralModel, numerals_by_value, tells_all_ascii_digits, tells_by_index, digit_at, digits_value-take-le}
use Rattle.std.specs.Int.{IsInRange}
use Rattle.script_read.specs.Words.{number_to}

own : IsNumeralModel (λ ds. all_ascii_digits ds ≡ true) (digits_value 10)
own = numerals_by_value (λ ds. all_ascii_digits ds ≡ true) tells_all_ascii_digits

own_by_index : IsNumeralModel (λ ds. (i : ℕ) → i < length ds → IsInRange 48 57 (get_or ds i 0)) (digits_value 10)
own_by_index = numerals_by_value (λ ds. (i : ℕ) → i < length ds → IsInRange 48 57 (get_or ds i 0)) tells_by_index

passed : (a b p m : Bool) (x : Option ℕ) → a ≡ true → b ≡ true → p ≡ true → m ≡ true → (if (a && (b && p)) && m then x else None) ≡ x
passed a b p m x ea eb ep em = rw (ea, eb, ep, em) refl

failed : (a b p m : Bool) (x : Option ℕ) → (a ≡ true → b ≡ true → p ≡ true → m ≡ true → ⊥) → (if (a && (b && p)) && m then x else None) ≡ None
failed false b p m x never = refl
failed true false p m x never = refl
failed true true false m x never = refl
failed true true true false x never = refl
failed true true true true x never = absurd (never refl refl refl refl)

-- a word of another length
pub number_misses : (most : ℕ) (word : List ℕ) → (0 < length word → length word ≤ 10 → ⊥) → number_to most word ≡ None
unfolding number_to
number_misses most word never =
    failed (all_ascii_digits word) (nat_lt 0 (length word)) (nat_le (length word) 10) (nat_le (digits_value 10 word) most) _
    (λ digits some short small. never (ltb-true 0 (length word) some) (leb-true (length word) 10 short))

-- a word with another byte than a digit
pub not_digits : (most i : ℕ) (word : List ℕ) → i < length word → ¬ IsInRange 48 57 (get_or word i 0) → number_to most word ≡ None
unfolding number_to
not_digits most i word below other =
    failed (all_ascii_digits word) (nat_lt 0 (length word)) (nat_le (length word) 10) (nat_le (digits_value 10 word) most) _
    (λ digits some short small. other (digit_at word i (own.to word digits) below))

-- a number whose prefix is already above the most
pub not_small : (most i value : ℕ) (word : List ℕ) → value ≡ digits_value 10 (take i word) → most < value → number_to most word ≡ None
unfolding number_to
not_small most i value word is above =
    let more = digits_value-take-le 10 word i (omega arith) in
    failed (all_ascii_digits word) (nat_lt 0 (length word)) (nat_le (length word) 10) (nat_le (digits_value 10 word) most) _
    (λ digits some short small. let below : digits_value 10 word ≤ most = leb-true _ _ small in absurd (omega arith))

-- a number read to its end
pub number_read : (most value : ℕ) (word : List ℕ) → 0 < length word → length word ≤ 10
    → ((i : ℕ) → i < length word → IsInRange 48 57 (get_or word i 0)) → value ≡ digits_value 10 word → value ≤ most
    → number_to most word ≡ Some value
unfolding number_to
number_read most value word some short digits is small =
    rw is (passed (all_ascii_digits word) (nat_lt 0 (length word)) (nat_le (length word) 10) (nat_le (digits_value 10 word) most) _
    (own.from word (own_by_index.to word digits)) (lt-ltb 0 (length word) some) (le-leb (length word) 10 short)
    (le-leb (digits_value 10 word) most (omega arith)))
