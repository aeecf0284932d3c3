-- How the packed bytes are filled, field by field, and that each voice has one packed form.
use Rattle.std.proofs.Common.{◌≡◌, ◌≢◌, ℕ, zero, suc, ◌+◌, ◌-◌, ◌*◌, ◌/◌, ◌%◌, ◌^◌, ◌<◌, ◌≤◌, List, length, get_or, set, refl, ap, sym, ◌∙◌, subst, arith, inl}
use Rattle.std.proofs.Common.{inr, ◌⊎◌, length-set, replicate, lit<, get_or-set_same, get_or-set_other, mul_assoc}
use Rattle.std.specs.Int.{bit_at}
use Rattle.std.proofs.lemmas.Bool.{cases_eq, cases_lt}
use Rattle.std.proofs.lemmas.Nat.{pow_pos, pow-add, field_of, shr_high, shr-shr, shl_below}
use Rattle.std.proofs.lemmas.Nat.Bits.{bit_at_above, same_from_bits}
use Rattle.std.proofs.lemmas.Grind.{same_number_lists}
use Rattle.std.proofs.Math.Nat.{add-mul-mod_self_right, pow-le-pow_right, mul-le-mul_left, mod-eq_of_lt}
use Rattle.std.proofs.Math.Pow.{mod-mod-pow}
use Rattle.voice_record.specs.Voice.{IsVoice}
use Rattle.voice_record.specs.Packing.{row_of, bits_of, Unpacks, Packs, IsUsed}
use Rattle.voice_record.proofs.Rows.{fill, stacked, places_of, fill_same, fill_other, below_fill, used_below}

-- what is put above the bits of a field leaves them
keeps_low : (x f s shift width : ℕ) → shift + width ≤ s → (x + f * 2 ^ s) / 2 ^ shift % 2 ^ width ≡ x / 2 ^ shift % 2 ^ width
keeps_low x f s shift width h =
    let c : ℕ = s - (width + shift) in
    let e : c + (width + shift) ≡ s = omega arith in
    let split : 2 ^ s ≡ 2 ^ c * 2 ^ (width + shift) = ap (λ n. 2 ^ n) (sym e) ∙ pow-add 2 c (width + shift) in
    let same : (x + f * 2 ^ s) % 2 ^ (width + shift) ≡ x % 2 ^ (width + shift) =
    rw split (rw (sym (mul_assoc f (2 ^ c) (2 ^ (width + shift)))) (add-mul-mod_self_right x (f * 2 ^ c) (2 ^ (width + shift)))) in
    sym (field_of (x + f * 2 ^ s) width shift) ∙ (ap (λ n. n / 2 ^ shift) same ∙ field_of x width shift)

-- the bits that were put
reads_high : (x f s width : ℕ) → x < 2 ^ s → f < 2 ^ width → (x + f * 2 ^ s) / 2 ^ s % 2 ^ width ≡ f
reads_high x f s width lx lf =
    let e : (x + f * 2 ^ s) / 2 ^ s ≡ f = ap (λ n. n / 2 ^ s) (omega arith) ∙ shr_high f s x lx in
    rw e (mod-eq_of_lt lf)

-- the byte so far, with the bits above it
pub sum_below : (x f s width : ℕ) → x < 2 ^ s → f < 2 ^ width → x + f * 2 ^ s < 2 ^ (s + width)
sum_below x f s width lx lf =
    let split : 2 ^ (s + width) ≡ 2 ^ s * 2 ^ width = pow-add 2 s width in
    let more : 2 ^ s * (f + 1) ≤ 2 ^ s * 2 ^ width = mul-le-mul_left (2 ^ s) (omega arith) in
    rw split (omega arith)

-- the first n fields are in their bits, and nothing else is
pub record IsFilled (fields bytes : List ℕ) (n : ℕ) : Type 0 where
  pub count : length bytes ≡ 128
  pub rows : (k : ℕ) → k < n → bits_of bytes k ≡ get_or fields k 0
  pub below : (byte : ℕ) → get_or bytes byte 0 < 2 ^ fill n byte

field_small : (fields : List ℕ) (n : ℕ) → IsVoice fields → n < 155 → get_or fields n 0 < 2 ^ (row_of n).width
field_small fields n v l = omega (arith, v.within n l, (places_of n l).fits)

-- there is room for the next field
pub room : (fields bytes : List ℕ) (n : ℕ) → IsFilled fields bytes n → n < 155 → get_or bytes (row_of n).byte 0 < 2 ^ (row_of n).shift
room fields bytes n h l = rw (stacked n l) at (h.below (row_of n).byte)

-- the next field is put above the earlier ones of its byte
pub filled_more :
    (fields bytes : List ℕ) (n value : ℕ) → IsVoice fields → n < 155 → IsFilled fields bytes n
    → value ≡ get_or bytes (row_of n).byte 0 + get_or fields n 0 * 2 ^ (row_of n).shift → IsFilled fields (set bytes (row_of n).byte value) (suc n)
filled_more fields bytes n value v l h is =
    let f = field_small fields n v l in
    let x = room fields bytes n h l in
    let there : (row_of n).byte < length bytes = rw (h.count) ((places_of n l).byte) in
    record {
      count = length-set bytes (row_of n).byte value ∙ h.count;
      rows = λ k below.
          elim (cases_eq k n) [
            | inl e ↦ rw e (rw get_or-set_same (rw is (reads_high _ _ _ _ x f)))
            | inr ne ↦ (let earlier : k < n = omega arith in
                elim (cases_eq (row_of k).byte (row_of n).byte) [
                  | inl same ↦ (let under : (row_of k).shift + (row_of k).width ≤ (row_of n).shift =
                      omega (arith, below_fill n k (omega arith) earlier, subst (λ b. fill n b ≡ (row_of n).shift) (sym same) (stacked n l)) in
                      let kept = keeps_low (get_or bytes (row_of n).byte 0) (get_or fields n 0) (row_of n).shift (row_of k).shift (row_of k).width under in
                      let read : get_or (set bytes (row_of n).byte value) (row_of k).byte 0 ≡ value =
                      subst (λ b. get_or (set bytes (row_of n).byte value) b 0 ≡ value) (sym same) (get_or-set_same bytes (row_of n).byte value 0 there) in
                      rw read (rw is (kept ∙ subst (λ b. get_or bytes b 0 / 2 ^ (row_of k).shift % 2 ^ (row_of k).width ≡ get_or fields k 0) same
                      (h.rows k earlier))))
                  | inr other ↦ rw get_or-set_other (h.rows k earlier)
                ])
          ];
      below = λ byte.
          elim (cases_eq (row_of n).byte byte) [
            | inl e ↦ (let read : get_or (set bytes (row_of n).byte value) byte 0 ≡ value =
                subst (λ b. get_or (set bytes (row_of n).byte value) b 0 ≡ value) e (get_or-set_same bytes (row_of n).byte value 0 there) in
                rw (fill_same n byte e, read) (rw is (sum_below _ _ _ _ x f)))
            | inr ne ↦ (let apart : byte ≢ (row_of n).byte = λ same. ne (sym same) in rw (fill_other n byte ne) (rw get_or-set_other (h.below byte)))
          ];
    }

pub filled_none : (fields bytes : List ℕ) → length bytes ≡ 128 → ((byte : ℕ) → get_or bytes byte 0 ≡ 0) → IsFilled fields bytes 0
filled_none fields bytes e zeros = record {
  count = e;
  rows = λ k l. absurd (omega (arith, l));
  below = λ byte. rw (zeros byte) (pow_pos (fill 0 byte));
}

pub filled_all : (fields bytes : List ℕ) → IsVoice fields → IsFilled fields bytes 155 → Packs fields bytes
filled_all fields bytes v h = record {
  count = h.count;
  unpacks = record {
    count = v.count;
    rows = λ k l. rw (h.rows k l) (omega (arith, v.within k l));
  };
  unused = λ byte bit l free.
      elim (cases_lt bit (fill 155 byte)) [
        | inl a ↦ absurd (free (used_below 155 byte bit (omega arith) a))
        | inr b ↦ bit_at_above _ (fill 155 byte) bit (h.below byte) b
      ];
  within = λ k l. rw (h.rows k l) (v.within k l);
}

pub unpacked_is_voice : (bytes fields : List ℕ) → Unpacks bytes fields → IsVoice fields
unpacked_is_voice bytes fields u = record { count = u.count; within = λ k l. rw (u.rows k l) (omega arith) }

-- bytes unpack to one voice
pub unpacks_unique : (bytes fields others : List ℕ) → Unpacks bytes fields → Unpacks bytes others → fields ≡ others
unpacks_unique bytes fields others u w =
    same_number_lists fields others (u.count ∙ sym w.count)
    (λ k l. let small : k < 155 = (rw (u.count) at l) in u.rows k small ∙ sym (w.rows k small))

-- the bits of a field in the packed form are the field
pub packed_bits : (fields bytes : List ℕ) (k : ℕ) → Packs fields bytes → k < 155 → bits_of bytes k ≡ get_or fields k 0
packed_bits fields bytes k p l = omega (arith, p.unpacks.rows k l, p.within k l)

-- a bit inside the bits of a field is a bit of the field
bit_of_field : (n shift width bit : ℕ) → shift ≤ bit → bit < shift + width → bit_at n bit ≡ bit_at (n / 2 ^ shift % 2 ^ width) (bit - shift)
bit_of_field n shift width bit a b =
    let i : ℕ = bit - shift in
    let rest : ℕ = width - i - 1 in
    let at : i + shift ≡ bit = omega arith in
    let wide : rest + 1 + i ≡ width = omega arith in
    let low : n / 2 ^ shift % 2 ^ (rest + 1 + i) / 2 ^ i ≡ n / 2 ^ shift / 2 ^ i % 2 ^ (rest + 1) = field_of (n / 2 ^ shift) (rest + 1) i in
    let one : n / 2 ^ shift / 2 ^ i % 2 ^ (rest + 1) % 2 ≡ n / 2 ^ shift / 2 ^ i % 2 = mod-mod-pow (n / 2 ^ shift / 2 ^ i) rest 1 in
    let moved : n / 2 ^ shift / 2 ^ i ≡ n / 2 ^ bit = shr-shr n shift i ∙ ap (λ m. n / 2 ^ m) (omega arith) in
    let whole : n / 2 ^ shift % 2 ^ width / 2 ^ i ≡ n / 2 ^ shift / 2 ^ i % 2 ^ (rest + 1) =
    subst (λ w. n / 2 ^ shift % 2 ^ w / 2 ^ i ≡ n / 2 ^ shift / 2 ^ i % 2 ^ (rest + 1)) wide low in
    ap (λ m. m % 2) (sym moved) ∙ (sym one ∙ ap (λ m. m % 2) (sym whole))

-- the same voice has the same used bits in each of its packed forms
same_used : (fields p q : List ℕ) (byte bit : ℕ) → Packs fields p → Packs fields q → IsUsed byte bit
    → bit_at (get_or p byte 0) bit ≡ bit_at (get_or q byte 0) bit
same_used fields p q byte bit a b (k, small, at, low, high) =
    let fact : (x : List ℕ) → Packs fields x → bit_at (get_or x byte 0) bit ≡ bit_at (get_or fields k 0) (bit - (row_of k).shift) =
    λ x h. subst (λ y. bit_at (get_or x y 0) bit ≡ bit_at (get_or fields k 0) (bit - (row_of k).shift)) at
    (bit_of_field (get_or x (row_of k).byte 0) (row_of k).shift (row_of k).width bit low high
    ∙ ap (λ m. bit_at m (bit - (row_of k).shift)) (packed_bits fields x k h small)) in
    fact p a ∙ sym (fact q b)

-- a bit is used or not
used_or_not : (byte bit : ℕ) → IsUsed byte bit ⊎ ¬ IsUsed byte bit
used_or_not byte bit =
    elim (cases_lt bit (fill 155 byte)) [
      | inl a ↦ inl (used_below 155 byte bit (omega arith) a)
      | inr b ↦ inr (λ (k, small, at, low, high). absurd (omega (
        arith,
        subst (λ y.
            (row_of k).shift + (row_of k).width ≤ fill 155 y) at (below_fill 155 k (omega arith) small),
      )))
    ]

-- each voice has one packed form
pub packs_unique : (fields p q : List ℕ) → Packs fields p → Packs fields q → p ≡ q
packs_unique fields p q a b =
    same_number_lists p q (a.count ∙ sym b.count)
    (λ byte l.
    let small : byte < 128 = (rw (a.count) at l) in
    same_from_bits _ _ (λ bit.
    elim (used_or_not byte bit) [
      | inl used ↦ same_used fields p q byte bit a b used
      | inr free ↦ a.unused byte bit small free ∙ sym (b.unused byte bit small free)
    ]))

pub zeros_at : (n byte : ℕ) → let zero_byte : ℕ = 0 in get_or (replicate n zero_byte) byte zero_byte ≡ zero_byte
zeros_at zero byte = refl
zeros_at (suc n) zero = refl
zeros_at (suc n) (suc byte) = zeros_at n byte

-- a field fits its byte
pub fits_byte : (fields : List ℕ) (n : ℕ) → IsVoice fields → n < 155 → get_or fields n 0 * 2 ^ (row_of n).shift < 128
fits_byte fields n v l =
    let p = places_of n l in
    let below = shl_below (get_or fields n 0) (row_of n).width (row_of n).shift (field_small fields n v l) in
    let small : (row_of n).width + (row_of n).shift ≤ 7 = omega (arith, p.end) in
    let top : 2 ^ ((row_of n).width + (row_of n).shift) ≤ 2 ^ 7 = pow-le-pow_right (lit< tt) small in
    omega (arith, below, top)
