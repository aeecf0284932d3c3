-- What the tests of the table tell, over plain numbers.
use Rattle.std.proofs.Common.{◌≡◌, ◌≢◌, ℕ, ◌≤◌, Bool, true, false, not, ◌&&◌, ◌||◌, nat_le, nat_lt, ◌==◌, if◌then◌else◌, arith, ◌⊎◌}
use Rattle.std.proofs.lemmas.Bool.Decides.{nat_tests}

-- substatus, format
pub format_known : (s f : ℕ) → s ≡ 0 → (s == 0 && (not (f == 0) && not (f == 9))) ≡ false → (f ≡ 0) ⊎ (f ≡ 9)
format_known s f e h = grind (arith, nat_tests)

pub format_good : (s f g : ℕ) → f ≡ g → (g ≡ 0) ⊎ (g ≡ 9) → (s == 0 && (not (f == 0) && not (f == 9))) ≡ false
format_good s f g e h = grind (arith, nat_tests)

pub not_a_dump : (s : ℕ) (rest : Bool) → s ≢ 0 → (s == 0 && rest) ≡ false
not_a_dump s rest h = grind (arith, nat_tests)

pub not_a_change : (s : ℕ) (rest : Bool) → s ≢ 1 → (s == 1 && rest) ≡ false
not_a_change s rest h = grind (arith, nat_tests)

-- the count bytes of a voice, and of a cartridge
pub count_known_voice : (s n f a b : ℕ) → s ≡ 0 → 7 ≤ n → f ≡ 0 → (s == 0 &&
    (nat_le 7 n && (f == 0 && not (a == 1 && b == 27) || f == 9 && not (a == 32 && b == 0)))) ≡ false → (a ≡ 1) × (b ≡ 27)
count_known_voice s n f a b es l ef h = grind (arith, nat_tests)

pub count_known_cartridge : (s n f a b : ℕ) → s ≡ 0 → 7 ≤ n → f ≡ 9 → (s == 0 &&
    (nat_le 7 n && (f == 0 && not (a == 1 && b == 27) || f == 9 && not (a == 32 && b == 0)))) ≡ false → (a ≡ 32) × (b ≡ 0)
count_known_cartridge s n f a b es l ef h = grind (arith, nat_tests)

pub count_good_voice : (s n f a b : ℕ) → f ≡ 0 → a ≡ 1 → b ≡ 27 → (s == 0 &&
    (nat_le 7 n && (f == 0 && not (a == 1 && b == 27) || f == 9 && not (a == 32 && b == 0)))) ≡ false
count_good_voice s n f a b ef ea eb = grind (arith, nat_tests)

pub count_good_cartridge : (s n f a b : ℕ) → f ≡ 9 → a ≡ 32 → b ≡ 0 → (s == 0 &&
    (nat_le 7 n && (f == 0 && not (a == 1 && b == 27) || f == 9 && not (a == 32 && b == 0)))) ≡ false
count_good_cartridge s n f a b ef ea eb = grind (arith, nat_tests)

-- the lengths: of a dump, of a change, of a request
pub length_of_dump : (s n w g : ℕ) → s ≡ 0 → not (if s == 0 then n == w else (if s == 1 then (if g == 0 then n == 7 else nat_le 7 n) else true)) ≡ false → n ≡ w
length_of_dump s n w g e h = grind (arith, nat_tests)

pub dump_length : (s n w g : ℕ) → s ≡ 0 → n ≡ w → not (if s == 0 then n == w else (if s == 1 then (if g == 0 then n == 7 else nat_le 7 n) else true)) ≡ false
dump_length s n w g e h = grind (arith, nat_tests)

pub length_of_change : (s n w g : ℕ) → s ≡ 1 → not (if s == 0 then n == w else (if s == 1 then (if g == 0 then n == 7 else nat_le 7 n) else true)) ≡ false
    → (7 ≤ n) × (g ≡ 0 → n ≡ 7)
length_of_change s n w g e h = (grind (arith, nat_tests), λ z. grind (arith, nat_tests))

pub change_length : (s n w g : ℕ) → s ≡ 1 → 7 ≤ n → (g ≡ 0 → n ≡ 7) → not
    (if s == 0 then n == w else (if s == 1 then (if g == 0 then n == 7 else nat_le 7 n) else true)) ≡ false
change_length s n w g e l h = grind (arith, nat_tests)

pub request_length : (s n w g : ℕ) → s ≡ 2 → not (if s == 0 then n == w else (if s == 1 then (if g == 0 then n == 7 else nat_le 7 n) else true)) ≡ false
request_length s n w g e = grind (arith, nat_tests)

pub wanted_voice : (s f : ℕ) → s ≡ 0 → f ≡ 0 → let w : ℕ = if s == 0 then (if f == 0 then 163 else 4104) else 7 in w ≡ 163
wanted_voice s f es ef = grind (arith, nat_tests)

pub wanted_cartridge : (s f : ℕ) → s ≡ 0 → f ≡ 9 → let w : ℕ = if s == 0 then (if f == 0 then 163 else 4104) else 7 in w ≡ 4104
wanted_cartridge s f es ef = grind (arith, nat_tests)

-- the checksum
pub check_known : (s c w : ℕ) → s ≡ 0 → (s == 0 && not (c == w)) ≡ false → c ≡ w
check_known s c w e h = grind (arith, nat_tests)

pub check_good : (s c w : ℕ) → c ≡ w → (s == 0 && not (c == w)) ≡ false
check_good s c w h = grind (arith, nat_tests)

-- the value of a change
pub value_known : (s g n m v : ℕ) → s ≡ 1 → g ≡ 0 → n ≤ 155 → (s == 1 && (g == 0 && (nat_le n 155 && nat_lt m v))) ≡ false → v ≤ m
value_known s g n m v es eg l h = grind (arith, nat_tests)

pub value_good : (s g n m v : ℕ) → (g ≡ 0 → n ≤ 155 → v ≤ m) → (s == 1 && (g == 0 && (nat_le n 155 && nat_lt m v))) ≡ false
value_good s g n m v h = grind (arith, nat_tests)
