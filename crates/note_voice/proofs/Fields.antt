-- How large the parameters of a voice are that a note reads.
use Rattle.std.proofs.Common.{ℕ, ◌≡◌, ◌+◌, ◌-◌, ◌*◌, ◌<◌, ◌≤◌, ◌∷◌, [], refl, List, get_or, arith}
use Rattle.std.specs.List.{All}
use Rattle.std.proofs.lemmas.List.Elements.{All-cons, All-nil}
use Rattle.voice_record.specs.Voice.{IsVoice, operator_greatest, greatest_value}
use Rattle.voice_record.proofs.Voices.{within_operator, greatest_of_operator}
use Rattle.note_voice.specs.Note.{four_from}

-- a field of an operator, by its number in the voice
within_at : (voice : List ℕ) (operator field number : ℕ) → number ≡ 21 * (6 - operator) + field → IsVoice voice → 1 ≤ operator → operator ≤ 6 → field < 21
    → get_or voice number 0 ≤ get_or operator_greatest field 0
within_at voice operator field number e v first last inside = rw e (within_operator voice (6 - operator) field v (omega arith) inside)

-- four numbers that are at most 99
four_within : (voice : List ℕ) (number : ℕ) → get_or voice number 0 ≤ 99 → get_or voice (number + 1) 0 ≤ 99 → get_or voice (number + 2) 0 ≤ 99
    → get_or voice (number + 3) 0 ≤ 99 → All (λ r. r ≤ 99) (four_from voice number)
four_within voice number a b c d =
    let P : ℕ → Type 0 = λ r. r ≤ 99 in
    let x = get_or voice (number + 1) 0 in
    let y = get_or voice (number + 2) 0 in
    let z = get_or voice (number + 3) 0 in
    All-cons P (get_or voice number 0) (x ∷ y ∷ z ∷ []) a (All-cons P x (y ∷ z ∷ []) b (All-cons P y (z ∷ []) c (All-cons P z [] d (All-nil P))))

pub rates_within : (voice : List ℕ) (operator : ℕ) → IsVoice voice → 1 ≤ operator → operator ≤ 6 → All (λ r. r ≤ 99) (four_from voice (21 * (6 - operator) + 0))
rates_within voice operator v first last =
    four_within voice (21 * (6 - operator) + 0)
    (within_at voice operator 0 _ (omega arith) v first last (omega arith))
    (within_at voice operator 1 _ (omega arith) v first last (omega arith))
    (within_at voice operator 2 _ (omega arith) v first last (omega arith))
    (within_at voice operator 3 _ (omega arith) v first last (omega arith))

pub levels_within : (voice : List ℕ) (operator : ℕ) → IsVoice voice → 1 ≤ operator → operator ≤ 6
    → All (λ l. l ≤ 99) (four_from voice (21 * (6 - operator) + 4))
levels_within voice operator v first last =
    four_within voice (21 * (6 - operator) + 4)
    (within_at voice operator 4 _ refl v first last (omega arith))
    (within_at voice operator 5 _ (omega arith) v first last (omega arith))
    (within_at voice operator 6 _ (omega arith) v first last (omega arith))
    (within_at voice operator 7 _ (omega arith) v first last (omega arith))

pub pitch_rates_within : (voice : List ℕ) → IsVoice voice → All (λ r. r ≤ 99) (four_from voice 126)
unfolding greatest_value
pitch_rates_within voice v = four_within voice 126 (v.within 126 (omega arith)) (v.within 127 (omega arith)) (v.within 128 (omega arith))
    (v.within 129 (omega arith))

pub pitch_levels_within : (voice : List ℕ) → IsVoice voice → All (λ l. l ≤ 99) (four_from voice 130)
unfolding greatest_value
pitch_levels_within voice v = four_within voice 130 (v.within 130 (omega arith)) (v.within 131 (omega arith)) (v.within 132 (omega arith))
    (v.within 133 (omega arith))

pub sensitivity_greatest : (operator : ℕ) → 1 ≤ operator → operator ≤ 6 → greatest_value (21 * (6 - operator) + 14) ≡ 3
sensitivity_greatest operator first last = greatest_of_operator (6 - operator) 14 (omega arith) (omega arith)
