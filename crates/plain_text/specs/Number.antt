-- Numbers as words and scripts write them.
use Rattle.std.specs.Prelude.{◌≡◌, ◌↔◌, ◌^◌, ◌<◌, ◌≤◌, decimal, ℕ, List, Option, None, Some, Bool, not, ◌&&◌, ◌==◌, nat_lt, nat_le}
use Rattle.std.specs.Prelude.{length, slice_index, if◌then◌else◌}
use Rattle.std.specs.Str.{all_ascii_digits}
use Rattle.std.specs.Str.Parse.{digits_value}

-- a zero stands in front of other digits
abbrev pub is_padded : List ℕ → Bool
is_padded text = nat_lt 1 (length text) && (slice_index text 0 == 48)

-- decimal digits, one at least, with no zero in front of others
abbrev pub is_number : List ℕ → Bool
is_number text = all_ascii_digits text && nat_lt 0 (length text) && not (is_padded text)

-- the number that the text writes, where it is from least to most
abbrev pub number : ℕ → ℕ → List ℕ → Option ℕ
number least most text =
    if is_number text && nat_le least (digits_value 10 text) && nat_le (digits_value 10 text) most then Some (digits_value 10 text) else None

-- a text writes a number exactly where it is the number's own decimal text
abbrev pub NumbersAreDecimal : Type 0
NumbersAreDecimal =
    (least most n : ℕ) (text : List ℕ) → most < 2 ^ 32
    → (number least most text ≡ Some n) ↔ ((text ≡ decimal n) × (least ≤ n) × (n ≤ most))
