-- A voice with another name.
use Rattle.std.proofs.Common.{◌≡◌, ℕ, ◌+◌, ◌-◌, ◌<◌, ◌≤◌, true, false, Bool, List, [], ◌++◌, length, take, drop, cond, get_or, Some, None, refl, arith, nat_le}
use Rattle.std.proofs.Common.{inl, inr}
use Rattle.std.specs.Prelude.{nat_lt, not}
use Rattle.std.specs.List.{position_or_len}
use Rattle.std.proofs.lemmas.Bool.{leb-true, ltb-false, cases_lt}
use Rattle.std.proofs.lemmas.List.{get_or_append_left, get_or-append_right, get_or-take, length-append, length-take-le, length-drop, append-nil, drop_all}
use Rattle.std.proofs.lemmas.List.Sums.{prefix_len_passes}
use borrow.Rule.Slice.PartMut.{put_mid, post_of}
use Rattle.voice_record.specs.Voice.{greatest_value, IsVoice}
use Rattle.voice_record.proofs.Every.{every, every_at}
use Rattle.editor.specs.Names.{first_high, renamed}

all_name : every (λ n. nat_le 127 (greatest_value (145 + n))) 10 ≡ true
unfolding every greatest_value
all_name = refl

-- a byte of a name may be up to 127
name_greatest : (n : ℕ) → n < 10 → 127 ≤ greatest_value (145 + n)
name_greatest n l = leb-true _ _ (every_at (λ k. nat_le 127 (greatest_value (145 + k))) 10 all_name n l)

not_true : (b : Bool) → not b ≡ true → b ≡ false
not_true true e = cc
not_true false e = refl

cond_none : (b : Bool) (n : ℕ) → cond b (Some n) None ≡ None → b ≡ false
cond_none true n e = cc
cond_none false n e = refl

-- where none is above 127, each is at most 127
pub none_high : (name : List ℕ) (k : ℕ) → first_high name ≡ None → k < length name → get_or name k 0 ≤ 127
none_high name k e l =
    let high : ℕ → Bool = λ byte. nat_lt 127 byte in
    let short : length name ≤ position_or_len high name = ltb-false _ _ (cond_none _ _ e) in
    let passes : not (nat_lt 127 (get_or name k 0)) ≡ true = prefix_len_passes (λ byte. not (nat_lt 127 byte)) name k 0 (omega arith) in
    ltb-false _ _ (not_true _ passes)

named_within : (voice name : List ℕ) (n : ℕ) → IsVoice voice → length name ≡ 10 → first_high name ≡ None → n < 155
    → get_or (take 145 voice ++ name) n 0 ≤ greatest_value n
named_within voice name n v ten low l =
    let prefix : length (take 145 voice) ≡ 145 = length-take-le 145 voice (omega (arith, v.count)) in
    elim (cases_lt n 145) [
      | inl below ↦ (rw (get_or_append_left (take 145 voice) name 0 n (omega arith), get_or-take 145 voice n 0 below) (v.within n l))
      | inr above ↦ (
          let place : n ≡ 145 + (n - 145) = omega arith in
          let bound : get_or name (n - 145) 0 ≤ 127 = none_high name (n - 145) low (omega arith) in
          let room : 127 ≤ greatest_value n = rw place (name_greatest (n - 145) (omega arith)) in
          rw (get_or-append_right (take 145 voice) name 145 n 0 prefix above) (omega arith))
    ]

pub renamed_is_voice : (voice name : List ℕ) → IsVoice voice → length name ≡ 10 → first_high name ≡ None → IsVoice (renamed voice name)
renamed_is_voice voice name v ten low = record {
  count = (rw (length-append, length-take-le 145 voice (omega (arith, v.count)), ten) refl);
  within = λ n l. named_within voice name n v ten low l;
}

tail_none : (voice : List ℕ) → length voice ≡ 155 → post_of 145 10 voice ≡ []
tail_none voice count = drop_all 10 (drop 145 voice) (rw length-drop (omega (arith, count)))

-- the name is written over the last ten numbers
pub written_name : (voice name : List ℕ) → length voice ≡ 155 → put_mid 145 10 voice name ≡ renamed voice name
written_name voice name count = rw (tail_none voice count, append-nil) refl
