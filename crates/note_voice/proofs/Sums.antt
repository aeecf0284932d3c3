-- A sum of notes grows sample by sample, and stays far from the ends of 64 bits.
use Rattle.std.proofs.Common.{ℕ, ℤ, pos, ◌+ℤ◌, refl, List, length, get_or, set, ◌+◌, ◌^◌, ◌<◌, ◌≤◌, ◌≡◌, ◌∙◌, ap, arith, length-set, SFits, w32, w64}
use Rattle.std.proofs.Common.{unsigned_abs}
use Rattle.dx_tables.proofs.Loops.{set_more, set_rest}
use Rattle.dx_tables.proofs.Ranges.{abs_Within, Within_abs, Within-add, Within_from_fits32, fits_from_Within}
use Rattle.std.proofs.lemmas.Int.{ints}
use Rattle.algorithm_bus.specs.Buses.{IsBus}
use Rattle.note_voice.specs.Mix.{IsAdded, IsSmall}

-- the first n samples are added, and the others are as before
pub record IsAddedUpTo (n : ℕ) (y : ℕ → ℤ) (old new : List ℤ) : Type 0 where
  pub len : length new ≡ 64
  pub done : (j : ℕ) → j < n → get_or new j (pos 0) ≡ get_or old j (pos 0) +ℤ y j
  pub rest : (j : ℕ) → n ≤ j → get_or new j (pos 0) ≡ get_or old j (pos 0)

pub IsAddedUpTo-none : (y : ℕ → ℤ) (xs : List ℤ) → length xs ≡ 64 → IsAddedUpTo 0 y xs xs
IsAddedUpTo-none y xs e = record { len = e; done = λ j lt. absurd (omega (arith, lt)); rest = λ j le. refl }

pub IsAddedUpTo-next : (n : ℕ) (y : ℕ → ℤ) (old new : List ℤ) (v : ℤ) → n < 64 → IsAddedUpTo n y old new → v ≡ get_or old n (pos 0) +ℤ y n
    → IsAddedUpTo (n + 1) y old (set new n v)
IsAddedUpTo-next n y old new v lt m e = record {
  len = simp length-set m.len;
  done = let l : n < length new = rw m.len lt in set_more (λ j z. z ≡ get_or old j (pos 0) +ℤ y j) new n v (pos 0) l m.done e;
  rest = λ j le. set_rest (λ z. z ≡ get_or old j (pos 0)) new n v (pos 0) j le (m.rest j (omega arith));
}

pub IsAddedUpTo-all : (n : ℕ) (y : ℕ → ℤ) (old new : List ℤ) → 64 ≤ n → IsAddedUpTo n y old new → IsAdded y old new
IsAddedUpTo-all n y old new le m = record { len = m.len; sample = λ j lt. m.done j (omega arith) }

-- a small sum and a note's sample fit 64 bits together
pub sum_fits : (x y : ℤ) → unsigned_abs x ≤ 2 ^ 40 → SFits w32 y → SFits w64 (x +ℤ y)
sum_fits x y h f = fits_from_Within w64 _ _ (Within-add (2 ^ 40) (2 ^ 31) x y (abs_Within _ _ h) (Within_from_fits32 y f)) (omega arith)

-- a sum that grew by samples of 32 bits
pub IsAdded-small : (y : ℕ → ℤ) (old new : List ℤ) (b : ℕ) → IsAdded y old new → ((j : ℕ) → j < 64 → SFits w32 (y j)) → IsSmall b old → IsSmall (b + 2 ^ 31) new
IsAdded-small y old new b m f s = λ j lt. rw (m.sample j lt) (Within_abs _ _
    (Within-add b (2 ^ 31) _ _ (abs_Within _ _ (s j lt)) (Within_from_fits32 (y j) (f j lt))))

-- the same samples under another name
pub IsAdded-same : (y y' : ℕ → ℤ) (old new : List ℤ) → IsAdded y old new → ((j : ℕ) → j < 64 → y j ≡ y' j) → IsAdded y' old new
IsAdded-same y y' old new m e = record { len = m.len; sample = λ j lt. m.sample j lt ∙ ap (λ z. get_or old j (pos 0) +ℤ z) (e j lt) }

-- silence adds nothing
add_zero_z : (z y : ℤ) → y ≡ pos 0 → z ≡ z +ℤ y
add_zero_z z y e = omega (arith, ints, e)

pub IsAdded-silence : (y : ℕ → ℤ) (xs : List ℤ) → length xs ≡ 64 → ((j : ℕ) → y j ≡ pos 0) → IsAdded y xs xs
IsAdded-silence y xs e h = record { len = e; sample = λ j lt. add_zero_z (get_or xs j (pos 0)) (y j) (h j) }

-- the samples of a bus
pub IsAdded-bus : (y : ℕ → ℤ) (bus old new : List ℤ) → IsBus y bus → IsAdded (λ j. get_or bus j (pos 0)) old new → IsAdded y old new
IsAdded-bus y bus old new b m = IsAdded-same _ _ _ _ m (λ j lt. b.sample j lt)

-- a bound that is no less
pub IsSmall-more : (a b : ℕ) (xs : List ℤ) → a ≤ b → IsSmall a xs → IsSmall b xs
IsSmall-more a b xs le s = λ j lt. let h : unsigned_abs (get_or xs j (pos 0)) ≤ a = s j lt in omega arith
