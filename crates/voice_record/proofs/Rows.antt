-- What the bit table is like: the fields of a byte lie one above the other from bit 0 on, and each fits its bits.
use Rattle.std.proofs.Common.{◌≡◌, ℕ, zero, suc, ◌+◌, ◌-◌, ◌*◌, get_or, ◌/◌, ◌%◌, ◌^◌, ◌<◌, ◌≤◌, ◌&&◌, true, if◌then◌else◌, refl, arith, subst, inl, inr}
use Rattle.std.proofs.Common.{nat_le, nat_lt, ◌==◌}
use Rattle.std.proofs.lemmas.Bool.{lt-ltb, le-ltb, leb-true, ltb-true, eqb-true, eq-eqb, ne_eqb, cases_eq, cases_lt, and_parts}
use Rattle.voice_record.specs.Voice.{greatest_value}
use Rattle.voice_record.specs.Packing.{row_of, placed, operator_rows, common_rows, IsUsed}
use Rattle.voice_record.proofs.Every.{every, every_at}

-- how many bits of a byte the first n fields use
unfoldable pub fill : ℕ → ℕ → ℕ
fill zero byte = 0
fill (suc n) byte = if (row_of n).byte == byte then (row_of n).shift + (row_of n).width else fill n byte

all_stacked : every (λ n. fill n (row_of n).byte == (row_of n).shift) 155 ≡ true
unfolding every fill row_of
all_stacked = refl

-- each field begins where the earlier ones of its byte end
pub stacked : (n : ℕ) → n < 155 → fill n (row_of n).byte ≡ (row_of n).shift
stacked n l = eqb-true _ _ (every_at (λ k. fill k (row_of k).byte == (row_of k).shift) 155 all_stacked n l)

all_fit : every (λ n. nat_lt (row_of n).byte 128 && (nat_le ((row_of n).shift + (row_of n).width) 7 && nat_lt (greatest_value n) (2 ^ (row_of n).width))) 155 ≡
    true
unfolding every row_of greatest_value
all_fit = refl

-- where a field may lie
pub record IsBitField (n : ℕ) : Type 0 where
  pub byte : (row_of n).byte < 128
  pub end : (row_of n).shift + (row_of n).width ≤ 7
  pub fits : greatest_value n < 2 ^ (row_of n).width

pub places_of : (n : ℕ) → n < 155 → IsBitField n
places_of n l =
    let all = every_at (λ n. nat_lt (row_of n).byte 128 && (nat_le ((row_of n).shift + (row_of n).width) 7 && nat_lt (greatest_value n) (2 ^ (row_of n).width)))
    155 all_fit n l in
    let first = and_parts _ _ all in
    let second = and_parts _ _ first.1 in
    record { byte = ltb-true _ _ first.0; end = leb-true _ _ second.0; fits = ltb-true _ _ second.1 }

-- the rows of the operators and of the rest
pub operator_row : (n : ℕ) → n < 126 → row_of n ≡ placed (17 * (n / 21)) (get_or operator_rows (n % 21) (0, 0, 0))
unfolding row_of
operator_row n l = rw (lt-ltb _ _ l)

pub common_row : (n : ℕ) → 126 ≤ n → row_of n ≡ placed 0 (get_or common_rows (n - 126) (0, 0, 0))
unfolding row_of
common_row n l = rw (le-ltb _ _ l)

pub fill_same : (n byte : ℕ) → (row_of n).byte ≡ byte → fill (suc n) byte ≡ (row_of n).shift + (row_of n).width
unfolding fill
fill_same n byte e = rw (eq-eqb _ _ e)

pub fill_other : (n byte : ℕ) → ((row_of n).byte ≡ byte → ⊥) → fill (suc n) byte ≡ fill n byte
unfolding fill
fill_other n byte ne = rw (ne_eqb _ _ ne)

-- the bits of a field lie below what the fields up to it use
pub below_fill : (n k : ℕ) → n ≤ 155 → k < n → (row_of k).shift + (row_of k).width ≤ fill n (row_of k).byte
below_fill zero k l h = absurd (omega arith)
below_fill (suc n) k l h =
    elim (cases_eq k n) [
      | inl e ↦ (let same : fill (suc n) (row_of k).byte ≡ (row_of n).shift + (row_of n).width = rw e (fill_same n _ refl) in rw same (rw e (omega arith)))
      | inr ne ↦ (let lower = below_fill n k (omega arith) (omega arith) in
          elim (cases_eq (row_of n).byte (row_of k).byte) [
            | inl e ↦ (let s : fill n (row_of n).byte ≡ (row_of n).shift = stacked n (omega arith) in
                let t : fill n (row_of k).byte ≡ (row_of n).shift = subst (λ b. fill n b ≡ (row_of n).shift) e s in
                rw (fill_same n _ e) (omega arith))
            | inr other ↦ rw (fill_other n _ other) lower
          ])
    ]

-- a bit below what the fields use belongs to one of them
pub used_below : (n byte bit : ℕ) → n ≤ 155 → bit < fill n byte → IsUsed byte bit
unfolding fill
used_below zero byte bit l h = absurd (omega arith)
used_below (suc n) byte bit l h =
    elim (cases_eq (row_of n).byte byte) [
      | inl e ↦ (let top : bit < (row_of n).shift + (row_of n).width = (rw (fill_same n byte e) at h) in
          elim (cases_lt bit (row_of n).shift) [
            | inl a ↦ (let s : fill n byte ≡ (row_of n).shift = subst (λ b. fill n b ≡ (row_of n).shift) e (stacked n (omega arith)) in
                used_below n byte bit (omega arith) (omega arith))
            | inr b ↦ (n, omega arith, e, b, top)
          ])
      | inr ne ↦ used_below n byte bit (omega arith) (rw (fill_other n byte ne) at h)
    ]
