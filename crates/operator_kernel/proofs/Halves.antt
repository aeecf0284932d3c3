-- The halves of a lane of 64 bits.
use Rattle.std.proofs.Common.{ℕ, ℤ, zero, pos, negsuc, suc, [], ◌∷◌, ◌+ℤ◌, ◌*ℤ◌, ◌+◌, ◌-◌, ◌*◌, ◌/◌, ◌%◌, ◌^◌, ◌<◌, ◌≡◌, ◌∙◌, ap, sym, refl, subst, inl, inr}
use Rattle.std.proofs.Common.{SFits, to_z, of_z, w32, w64, arith}
use Rattle.std.specs.Int.{int_shr, int_wrap}
use lib.Lanes.{number_l, digits_l}
use Rattle.std.proofs.lemmas.Int.{ints, to_z_pos, to_z-of_z, SFits-int_wrap}
use Rattle.std.proofs.Math.Arith.{mod-mul}
use Rattle.std.proofs.Math.Nat.{mod-eq_of_lt, mod-one, pow-zero, pow-suc, one-le-pow, mul_comm}
use Rattle.std.proofs.Math.Facts.{to_z-neg}
use Rattle.dx_tables.specs.Numbers.{wrap, residue}
use Rattle.dx_tables.proofs.Ranges.{lt_or_le}
use Rattle.operator_kernel.proofs.Fours.{four_same}

packed_pos : (n a : ℕ) → pos n *ℤ pos (2 ^ 32) +ℤ pos a ≡ pos (n * 2 ^ 32 + a)
packed_pos n a = omega (arith, ints)

packed_neg : (n a : ℕ) → a < 2 ^ 32 → negsuc n *ℤ pos (2 ^ 32) +ℤ pos a ≡ negsuc (n * 2 ^ 32 + (2 ^ 32 - 1 - a))
packed_neg n a lt = omega (arith, ints, lt)

-- the upper half
pub shr_packed : (a : ℕ) (d : ℤ) → a < 2 ^ 32 → int_shr (d *ℤ pos (2 ^ 32) +ℤ pos a) 32 ≡ d
shr_packed a (pos n) lt =
    let q : (n * 2 ^ 32 + a) / 2 ^ 32 ≡ n = omega (arith, lt) in
    ap (λ z. int_shr z 32) (packed_pos n a) ∙ ap pos q
shr_packed a (negsuc n) lt =
    let q : (n * 2 ^ 32 + (2 ^ 32 - 1 - a)) / 2 ^ 32 ≡ n = omega (arith, lt) in
    ap (λ z. int_shr z 32) (packed_neg n a lt) ∙ ap negsuc q

-- the lower half
residue_pos : (n : ℕ) → residue (pos n) ≡ n % 2 ^ 32
residue_pos n = refl

residue_neg : (n : ℕ) → residue (negsuc n) ≡ 2 ^ 32 - 1 - n % 2 ^ 32
residue_neg n = omega arith

pub residue_packed : (a : ℕ) (d : ℤ) → a < 2 ^ 32 → residue (d *ℤ pos (2 ^ 32) +ℤ pos a) ≡ a
residue_packed a (pos n) lt =
    let q : (n * 2 ^ 32 + a) % 2 ^ 32 ≡ a = omega (arith, lt) in
    ap residue (packed_pos n a) ∙ residue_pos (n * 2 ^ 32 + a) ∙ q
residue_packed a (negsuc n) lt =
    let q : 2 ^ 32 - 1 - (n * 2 ^ 32 + (2 ^ 32 - 1 - a)) % 2 ^ 32 ≡ a = omega (arith, lt) in
    ap residue (packed_neg n a lt) ∙ residue_neg (n * 2 ^ 32 + (2 ^ 32 - 1 - a)) ∙ q

pub residue_small : (z : ℤ) → residue z < 2 ^ 32
residue_small (pos n) = rw (residue_pos n) (omega arith)
residue_small (negsuc n) = rw (residue_neg n) (omega arith)

residue_bits : (z : ℤ) → SFits w64 z → of_z w64 z % 2 ^ 32 ≡ residue z
residue_bits (pos n) h = sym (residue_pos n)
residue_bits (negsuc n) h =
    let lt : n < 2 ^ 63 = omega arith in
    let q : (2 ^ 64 - suc n) % 2 ^ 32 ≡ 2 ^ 32 - 1 - n % 2 ^ 32 = omega (arith, lt) in
    q ∙ sym (residue_neg n)

-- the lower 32 bits, moved up, are the number that they write times 2 ^ 32
raised_low : (a : ℕ) → a < 2 ^ 31 → to_z w64 (a * 2 ^ 32) ≡ to_z w32 a *ℤ pos (2 ^ 32) +ℤ pos 0
raised_low a lt =
    let e : to_z w32 a ≡ pos a = to_z_pos w32 a lt in
    let f : to_z w64 (a * 2 ^ 32) ≡ pos (a * 2 ^ 32) = to_z_pos w64 (a * 2 ^ 32) (omega (arith, lt)) in
    let g : a * 2 ^ 32 + 0 ≡ a * 2 ^ 32 = omega arith in
    f ∙ ap pos (sym g) ∙ sym (packed_pos a 0) ∙ ap (λ z. z *ℤ pos (2 ^ 32) +ℤ pos 0) (sym e)

raised_high : (k : ℕ) → k < 2 ^ 31 → to_z w64 ((2 ^ 32 - suc k) * 2 ^ 32) ≡ to_z w32 (2 ^ 32 - suc k) *ℤ pos (2 ^ 32) +ℤ pos 0
raised_high k lt =
    let e : to_z w32 (2 ^ 32 - suc k) ≡ negsuc k = to_z-neg w32 k lt in
    let m = k * 2 ^ 32 + (2 ^ 32 - 1 - 0) in
    let n : (2 ^ 32 - suc k) * 2 ^ 32 ≡ 2 ^ 64 - suc m = omega (arith, lt) in
    let f : to_z w64 (2 ^ 64 - suc m) ≡ negsuc m = to_z-neg w64 m (omega (arith, lt)) in
    ap (to_z w64) n ∙ f ∙ sym (packed_neg k 0 (omega arith)) ∙ ap (λ z. z *ℤ pos (2 ^ 32) +ℤ pos 0) (sym e)

raised : (a : ℕ) → a < 2 ^ 32 → to_z w64 (a * 2 ^ 32) ≡ to_z w32 a *ℤ pos (2 ^ 32) +ℤ pos 0
raised a lt = elim (lt_or_le a (2 ^ 31)) [
  | inl h ↦ raised_low a h
  | inr h ↦
      let k = 2 ^ 32 - 1 - a in
      let e : 2 ^ 32 - suc k ≡ a = omega (arith, lt) in
      subst (λ n. to_z w64 (n * 2 ^ 32) ≡ to_z w32 n *ℤ pos (2 ^ 32) +ℤ pos 0) e (raised_high k (omega (arith, h, lt)))
]

pub lower_lane : (z : ℤ) → SFits w64 z → int_shr (to_z w64 ((of_z w64 z * 2 ^ 32) % 2 ^ 64)) 32 ≡ wrap z
unfolding int_wrap
lower_lane z h =
    let n = of_z w64 z in
    let e : (n * 2 ^ 32) % 2 ^ 64 ≡ (n % 2 ^ 32) * 2 ^ 32 = omega arith in
    let f : (n * 2 ^ 32) % 2 ^ 64 ≡ residue z * 2 ^ 32 = e ∙ ap (λ m. m * 2 ^ 32) (residue_bits z h) in
    ap (λ m. int_shr (to_z w64 m) 32) f ∙ ap (λ y. int_shr y 32) (raised (residue z) (residue_small z)) ∙ shr_packed 0 (to_z w32 (residue z)) (omega arith)

-- the number that the lower half writes
pub wrap_packed : (a : ℕ) (d : ℤ) → a < 2 ^ 32 → wrap (d *ℤ pos (2 ^ 32) +ℤ pos a) ≡ to_z w32 a
unfolding int_wrap
wrap_packed a d lt = ap (to_z w32) (residue_packed a d lt)

pub wrap_residue : (z : ℤ) → to_z w32 (residue z) ≡ wrap z
unfolding int_wrap
wrap_residue z = refl

-- a number of 32 bits fits 64
pub fits_wider : (z : ℤ) → SFits w32 z → SFits w64 z
fits_wider (pos n) h = record { sfits = omega arith }
fits_wider (negsuc n) h = record { sfits = omega arith }

pub wrap_fits : (z : ℤ) → SFits w64 (wrap z)
wrap_fits z = fits_wider (wrap z) (SFits-int_wrap w32 z)

-- the lower half of a lane, as the code finds it
pub lower_read : (z : ℤ) → SFits w64 z → to_z w64 (of_z w64 (int_shr (to_z w64 ((of_z w64 z * 2 ^ 32) % 2 ^ 64)) 32)) ≡ wrap z
lower_read z h = ap (λ y. to_z w64 (of_z w64 y)) (lower_lane z h) ∙ to_z-of_z w64 (wrap z) (wrap_fits z)

-- two halves as the bits of a number
pub packed_bits : (a : ℕ) (d : ℤ) → a < 2 ^ 32 → SFits w32 d → to_z w64 (a + 2 ^ 32 * of_z w32 d) ≡ d *ℤ pos (2 ^ 32) +ℤ pos a
packed_bits a (pos n) lt h =
    let small : n < 2 ^ 31 = omega arith in
    let e : a + 2 ^ 32 * n ≡ n * 2 ^ 32 + a = omega arith in
    ap (to_z w64) e ∙ to_z_pos w64 (n * 2 ^ 32 + a) (omega (arith, lt, small)) ∙ sym (packed_pos n a)
packed_bits a (negsuc n) lt h =
    let small : n < 2 ^ 31 = omega arith in
    let m = n * 2 ^ 32 + (2 ^ 32 - 1 - a) in
    let e : a + 2 ^ 32 * (2 ^ 32 - suc n) ≡ 2 ^ 64 - suc m = omega (arith, lt, small) in
    ap (to_z w64) e ∙ to_z-neg w64 m (omega (arith, lt, small)) ∙ sym (packed_neg n a lt)

pub packed_fits : (a : ℕ) (d : ℤ) → a < 2 ^ 32 → SFits w32 d → SFits w64 (d *ℤ pos (2 ^ 32) +ℤ pos a)
packed_fits a (pos n) lt h =
    let small : n < 2 ^ 31 = omega arith in
    rw (packed_pos n a) (record { sfits = omega (arith, lt, small) })
packed_fits a (negsuc n) lt h =
    let small : n < 2 ^ 31 = omega arith in
    rw (packed_neg n a lt) (record { sfits = omega (arith, lt, small) })

-- numbers of eight lanes read as four of twice the width
number_digits : (p n x : ℕ) → 0 < p → number_l p (digits_l p n x) ≡ x % p ^ n
number_digits p zero x lt = sym (ap (λ m. x % m) (pow-zero p) ∙ mod-one x)
number_digits p (suc n) x lt =
    ap (λ y. x % p + p * y) (number_digits p n (x / p) lt)
    ∙ omega (arith, mul_comm p (x / p % p ^ n))
    ∙ sym (ap (λ m. x % m) (pow-suc p n) ∙ mod-mul x {m = p ^ n} {c = p} (one-le-pow n p lt) lt)

low_two : (a b r : ℕ) → a < 2 ^ 32 → b < 2 ^ 32 → (a + 2 ^ 32 * (b + 2 ^ 32 * r)) % 2 ^ 64 ≡ a + 2 ^ 32 * b
low_two a b r p q = omega (arith, p, q)

high_two : (a b r : ℕ) → a < 2 ^ 32 → b < 2 ^ 32 → (a + 2 ^ 32 * (b + 2 ^ 32 * r)) / 2 ^ 64 ≡ r
high_two a b r p q = omega (arith, p, q)

pub four_of_eight : (a b c d e f g h : ℕ) → a < 2 ^ 32 → b < 2 ^ 32 → c < 2 ^ 32 → d < 2 ^ 32 → e < 2 ^ 32 → f < 2 ^ 32 → g < 2 ^ 32 → h < 2 ^ 32 →
    digits_l (2 ^ 64) 4 (number_l 256 (digits_l 256 32 (number_l (2 ^ 32) (a ∷ b ∷ c ∷ d ∷ e ∷ f ∷ g ∷ h ∷ []))))
    ≡ (a + 2 ^ 32 * b) ∷ (c + 2 ^ 32 * d) ∷ (e + 2 ^ 32 * f) ∷ (g + 2 ^ 32 * h) ∷ []
four_of_eight a b c d e f g h pa pb pc pd pe pf pg ph =
    let n3 = g + 2 ^ 32 * (h + 2 ^ 32 * 0) in
    let n2 = e + 2 ^ 32 * (f + 2 ^ 32 * n3) in
    let n1 = c + 2 ^ 32 * (d + 2 ^ 32 * n2) in
    let n0 = a + 2 ^ 32 * (b + 2 ^ 32 * n1) in
    let l3 : n3 < 2 ^ 64 = omega (arith, pg, ph) in
    let l2 : n2 < 2 ^ 128 = omega (arith, pe, pf, l3) in
    let l1 : n1 < 2 ^ 192 = omega (arith, pc, pd, l2) in
    let l0 : n0 < 2 ^ 256 = omega (arith, pa, pb, l1) in
    let whole : number_l 256 (digits_l 256 32 n0) ≡ n0 = number_digits 256 32 n0 (omega arith) ∙ mod-eq_of_lt l0 in
    let q0 = high_two a b n1 pa pb in
    let q1 = high_two c d n2 pc pd in
    let q2 = high_two e f n3 pe pf in
    ap (digits_l (2 ^ 64) 4) whole
    ∙ four_same (low_two a b n1 pa pb)
    (ap (λ x. x % 2 ^ 64) q0 ∙ low_two c d n2 pc pd)
    (ap (λ x. x / 2 ^ 64 % 2 ^ 64) q0 ∙ ap (λ x. x % 2 ^ 64) q1 ∙ low_two e f n3 pe pf)
    (ap (λ x. x / 2 ^ 64 / 2 ^ 64 % 2 ^ 64) q0 ∙ ap (λ x. x / 2 ^ 64 % 2 ^ 64) q1 ∙ ap (λ x. x % 2 ^ 64) q2 ∙ low_two g h 0 pg ph)

-- the lanes of four numbers of 32 bits, by way of their bytes
low_one : (a r : ℕ) → a < 2 ^ 32 → (a + 2 ^ 32 * r) % 2 ^ 32 ≡ a
low_one a r p = omega (arith, p)

high_one : (a r : ℕ) → a < 2 ^ 32 → (a + 2 ^ 32 * r) / 2 ^ 32 ≡ r
high_one a r p = omega (arith, p)

pub four_of_four : (a b c d : ℕ) → a < 2 ^ 32 → b < 2 ^ 32 → c < 2 ^ 32 → d < 2 ^ 32 →
    digits_l (2 ^ 32) 4 (number_l 256 (digits_l 256 16 (number_l (2 ^ 32) (a ∷ b ∷ c ∷ d ∷ [])))) ≡ a ∷ b ∷ c ∷ d ∷ []
four_of_four a b c d pa pb pc pd =
    let n3 = d + 2 ^ 32 * 0 in
    let n2 = c + 2 ^ 32 * n3 in
    let n1 = b + 2 ^ 32 * n2 in
    let n0 = a + 2 ^ 32 * n1 in
    let l3 : n3 < 2 ^ 32 = omega (arith, pd) in
    let l2 : n2 < 2 ^ 64 = omega (arith, pc, l3) in
    let l1 : n1 < 2 ^ 96 = omega (arith, pb, l2) in
    let l0 : n0 < 2 ^ 128 = omega (arith, pa, l1) in
    let whole : number_l 256 (digits_l 256 16 n0) ≡ n0 = number_digits 256 16 n0 (omega arith) ∙ mod-eq_of_lt l0 in
    let q0 = high_one a n1 pa in
    let q1 = high_one b n2 pb in
    let q2 = high_one c n3 pc in
    ap (digits_l (2 ^ 32) 4) whole
    ∙ four_same (low_one a n1 pa)
    (ap (λ x. x % 2 ^ 32) q0 ∙ low_one b n2 pb)
    (ap (λ x. x / 2 ^ 32 % 2 ^ 32) q0 ∙ ap (λ x. x % 2 ^ 32) q1 ∙ low_one c n3 pc)
    (ap (λ x. x / 2 ^ 32 / 2 ^ 32 % 2 ^ 32) q0 ∙ ap (λ x. x / 2 ^ 32 % 2 ^ 32) q1 ∙ ap (λ x. x % 2 ^ 32) q2 ∙ low_one d 0 pd)
