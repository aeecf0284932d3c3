-- What the greatest values, the opening voice and clamped voices are.
use Rattle.std.proofs.Common.{◌≡◌, ℕ, ◌+◌, ◌*◌, ◌%◌, ◌<◌, ◌≤◌, true, List, length, get_or, refl, sym, ◌∙◌, arith, nat_le}
use Rattle.std.proofs.lemmas.Bool.{leb-true, lt-ltb}
use Rattle.std.proofs.lemmas.Grind.{same_number_lists}
use Rattle.voice_record.specs.Voice.{greatest_value, operator_greatest, IsVoice, IsClamped, opening_voice}
use Rattle.voice_record.proofs.Every.{every, every_at}

all_small : every (λ n. nat_le (greatest_value n) 127) 156 ≡ true
unfolding every greatest_value
all_small = refl

-- each number fits seven bits
pub greatest_small : (number : ℕ) → number < 156 → greatest_value number ≤ 127
greatest_small number l = leb-true _ _ (every_at (λ n. nat_le (greatest_value n) 127) 156 all_small number l)

-- the greatest value of an operator's field, by the index of the operator and of the field in it
pub greatest_of_operator : (index field : ℕ) → index < 6 → field < 21 → greatest_value (21 * index + field) ≡ get_or operator_greatest field 0
unfolding greatest_value
greatest_of_operator index field p f =
    let below : 21 * index + field < 126 = omega arith in
    let rest : (21 * index + field) % 21 ≡ field = omega arith in rw (lt-ltb _ _ below, rest)

-- an operator's field in a voice
pub within_operator :
    (fields : List ℕ) (index field : ℕ) → IsVoice fields → index < 6 → field < 21 → get_or fields (21 * index + field) 0 ≤ get_or operator_greatest field 0
within_operator fields index field v p f = rw (greatest_of_operator index field p f) at (v.within (21 * index + field) (omega arith))

opening_within : every (λ n. nat_le (get_or opening_voice n 0) (greatest_value n)) 155 ≡ true
unfolding every greatest_value opening_voice
opening_within = refl

opening_count : length opening_voice ≡ 155
unfolding opening_voice
opening_count = refl

pub opening_is_voice : IsVoice opening_voice
opening_is_voice = record {
  count = opening_count;
  within = λ n l. leb-true _ _ (every_at (λ k. nat_le (get_or opening_voice k 0) (greatest_value k)) 155 opening_within n l);
}

pub clamped_is_voice : (bytes fields : List ℕ) → IsClamped bytes fields → IsVoice fields
clamped_is_voice bytes fields h = record {
  count = h.count;
  within = λ n l. rw (h.clamped n l) (omega arith);
}

-- a voice is its own clamped form
pub clamped_same : (bytes fields : List ℕ) → IsClamped bytes fields → IsVoice bytes → fields ≡ bytes
clamped_same bytes fields h v =
    same_number_lists fields bytes (h.count ∙ sym v.count)
    (λ k l. let small : k < 155 = (rw (h.count) at l) in omega (arith, h.clamped k small, v.within k small, greatest_small k (omega arith)))
