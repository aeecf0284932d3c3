-- One note after the other is added to a sum that begins with 0.
use Rattle.std.proofs.Common.{ℕ, ℤ, pos, ◌+ℤ◌, List, length, get_or, ◌≤◌, ◌<◌, ◌≡◌, ◌∙◌, ap, refl, add-one, ◌+◌, arith, unsigned_abs, Option}
use Rattle.std.proofs.lemmas.Int.{ints}
use Rattle.note_voice.specs.Modulation.{Modulation}
use Rattle.note_voice.specs.Mix.{IsAdded, IsSmall}
use Rattle.note_voice.proofs.Sums.{IsAdded-same}
use Rattle.instrument.specs.Mix.{AreZeros}
use Rattle.instrument.specs.Blocks.{sum_to}
use Rattle.instrument.specs.State.{SlotData, mix_of, slot_sample}

add_zero_z : (z : ℤ) → z ≡ z +ℤ pos 0
add_zero_z z = omega (arith, ints)

add_assoc_z : (a b c : ℤ) → (a +ℤ b) +ℤ c ≡ a +ℤ (b +ℤ c)
add_assoc_z a b c = omega (arith, ints)

add_zero_left : (z : ℤ) → pos 0 +ℤ z ≡ z
add_zero_left z = omega (arith, ints)

-- one sum after the other
pub IsAdded-then : (y y' : ℕ → ℤ) (a b c : List ℤ) → IsAdded y a b → IsAdded y' b c → IsAdded (λ j. y j +ℤ y' j) a c
IsAdded-then y y' a b c m n = record {
  len = n.len;
  sample = λ j lt. n.sample j lt ∙ ap (λ z. z +ℤ y' j) (m.sample j lt)
      ∙ add_assoc_z (get_or a j (pos 0)) (y j) (y' j);
}

-- no slots add nothing
pub none_added : (m : Modulation) (ws : ℕ → Option SlotData) (xs : List ℤ) → length xs ≡ 64 → IsAdded (mix_of m ws 0) xs xs
unfolding mix_of
none_added m ws xs e = record { len = e; sample = λ j lt. add_zero_z (get_or xs j (pos 0)) }

one_more : (m : Modulation) (ws : ℕ → Option SlotData) (i j : ℕ) → mix_of m ws i j +ℤ slot_sample m (ws i) j ≡ mix_of m ws (i + 1) j
unfolding mix_of
one_more m ws i j = rw add-one refl

-- one slot more
pub one_added : (m : Modulation) (ws : ℕ → Option SlotData) (i : ℕ) (a b c : List ℤ) → IsAdded (mix_of m ws i) a b → IsAdded (slot_sample m (ws i)) b c
    → IsAdded (mix_of m ws (i + 1)) a c
one_added m ws i a b c h n = IsAdded-same _ _ _ _ (IsAdded-then _ _ _ _ _ h n) (λ j lt. one_more m ws i j)

-- a sum is as small as it was
pub IsSmall-more : (a b : ℕ) (xs : List ℤ) → a ≤ b → IsSmall a xs → IsSmall b xs
IsSmall-more a b xs le s = λ j lt. let h : unsigned_abs (get_or xs j (pos 0)) ≤ a = s j lt in omega arith

-- the sum of no notes is small
pub IsSmall-zeros : (xs : List ℤ) → AreZeros xs → IsSmall 0 xs
IsSmall-zeros xs h = λ j lt. rw (h j lt) (omega arith)

-- what was added to the sum of no notes is the sum
pub sum_is : (y : ℕ → ℤ) (old new : List ℤ) → AreZeros old → IsAdded y old new → (j : ℕ) → j < 64 → get_or new j (pos 0) ≡ y j
sum_is y old new z m j lt = m.sample j lt ∙ ap (λ x. x +ℤ y j) (z j lt) ∙ add_zero_left (y j)

-- the sum of no blocks, and of one more
pub sum_none : (y : ℕ → ℕ → ℤ) (xs : List ℤ) → length xs ≡ 64 → IsAdded (sum_to y 0) xs xs
unfolding sum_to
sum_none y xs e = record { len = e; sample = λ j lt. add_zero_z (get_or xs j (pos 0)) }

sum_more : (y : ℕ → ℕ → ℤ) (k j : ℕ) → sum_to y k j +ℤ y k j ≡ sum_to y (k + 1) j
unfolding sum_to
sum_more y k j = rw add-one refl

pub sum_next : (y : ℕ → ℕ → ℤ) (k : ℕ) (o : ℕ → ℤ) (a b c : List ℤ) → IsAdded (sum_to y k) a b → IsAdded o b c → ((j : ℕ) → o j ≡ y k j)
    → IsAdded (sum_to y (k + 1)) a c
sum_next y k o a b c m n e = IsAdded-same _ _ _ _ (IsAdded-then _ _ _ _ _ m n) (λ j lt. ap (λ z. sum_to y k j +ℤ z) (e j) ∙ sum_more y k j)
