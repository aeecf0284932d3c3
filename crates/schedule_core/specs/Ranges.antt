-- For private functions and proofs: a command is in range in one way at most, so that a world can keep the fact.
use Rattle.std.specs.Prelude.{ℕ, ◌≡◌, ◌⊎◌}
use Rattle.std.proofs.Common.{inl, inr, ap, arith}
use Rattle.std.proofs.Math.Bridge.{le_prop}
use Rattle.std.proofs.Math.Nat.{ℕ_set}
use Rattle.command_set.specs.Command.{CommandData, IsInRange, IsKnownControl, StartsNote, EndsNote, Bends, Controls, PicksProgram}
use Rattle.command_set.specs.Command.{SetsParameter, StoresVoice, LoadsVoice, LoadsCartridge}

one_of_two : {A B : Type 0} → IsProp A → IsProp B → (A → B → ⊥) → IsProp (A ⊎ B)
one_of_two p q apart (inl a) (inl b) = ap inl (p a b)
one_of_two p q apart (inl a) (inr b) = absurd (apart a b)
one_of_two p q apart (inr a) (inl b) = absurd (apart b a)
one_of_two p q apart (inr a) (inr b) = ap inr (q a b)

at_one : (n m : ℕ) → IsProp (n ≡ m)
at_one n m = hlevel ℕ_set

known_once : (number : ℕ) → IsProp (IsKnownControl number)
known_once number =
    one_of_two (at_one number 1)
    (one_of_two (at_one number 64) (at_one number 123) (λ a b. let h : 64 ≡ number = omega (arith, a) in omega (arith, a, b)))
    (λ a b. apart a b) where
      apart : number ≡ 1 → (number ≡ 64) ⊎ (number ≡ 123) → ⊥
      apart a (inl b) = omega (arith, a, b)
      apart a (inr b) = omega (arith, a, b)

pub in_range_once : (command : CommandData) → IsProp (IsInRange command)
in_range_once (StartsNote channel key velocity) = hlevel le_prop
in_range_once (EndsNote channel key) = hlevel le_prop
in_range_once (Bends channel value) = hlevel le_prop
in_range_once (Controls channel number value) = hlevel (le_prop, known_once)
in_range_once (PicksProgram channel number) = hlevel le_prop
in_range_once (SetsParameter number value) = hlevel le_prop
in_range_once (StoresVoice slot) = hlevel le_prop
in_range_once (LoadsVoice fields) = hlevel (le_prop, ℕ_set)
in_range_once (LoadsCartridge voices) = hlevel (le_prop, ℕ_set)
