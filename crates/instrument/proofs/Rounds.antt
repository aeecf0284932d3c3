-- The search for the first slot of the round whose key is up.
use Rattle.std.proofs.Common.{ℕ, suc, Bool, true, false, Option, Some, None, List, get_or, ◌+◌, ◌-◌, ◌%◌, ◌<◌, ◌≤◌, ◌≡◌, sym, refl, add-one, arith}
use Rattle.instrument.specs.declared.slot.Slot.{Slot}
use Rattle.instrument.specs.State.{SlotData, first_that, is_up, round_from}
use Rattle.instrument.specs.Running.{IsSlot, AreSlots}

first_that_here : (p : ℕ → Bool) (m c : ℕ) → p m ≡ true → first_that p m (suc c) ≡ Some m
unfolding first_that
first_that_here p m c e = rw e

first_that_next : (p : ℕ → Bool) (m c : ℕ) → p m ≡ false → first_that p m (suc c) ≡ first_that p (m + 1) c
unfolding first_that
first_that_next p m c e = rw (e, add-one)

first_that_none : (p : ℕ → Bool) (m : ℕ) → first_that p m 0 ≡ None
unfolding first_that
first_that_none p m = refl

pub first_that_stops : (p : ℕ → Bool) (k : ℕ) → k < 16 → p k ≡ true → first_that p k (16 - k) ≡ Some k
first_that_stops p k lt h =
    let e : 16 - k ≡ suc (15 - k) = omega arith in
    rw e (first_that_here p k (15 - k) h)

pub first_that_goes_on : (p : ℕ → Bool) (k : ℕ) → k < 16 → p k ≡ false → first_that p k (16 - k) ≡ first_that p (k + 1) (16 - (k + 1))
first_that_goes_on p k lt h =
    let e : 16 - k ≡ suc (16 - (k + 1)) = omega arith in
    rw e (first_that_next p k (16 - (k + 1)) h)

pub first_that_ends : (p : ℕ → Bool) (k : ℕ) → 16 ≤ k → first_that p k (16 - k) ≡ None
first_that_ends p k le =
    let e : 16 - k ≡ 0 = omega arith in
    rw e (first_that_none p k)

-- what the code sees of slot k of the round
pub up_is : (vs : List Slot) (ws : ℕ → Option SlotData) (next next' k : ℕ) (d : Slot) (r : Bool) → next ≡ next' → AreSlots vs ws
    → ((w : Option SlotData) → IsSlot (get_or vs ((next + k) % 16) d) w → r ≡ is_up w) → is_up (ws (round_from next' k)) ≡ r
up_is vs ws next next' k d r n h f =
    let lt : (next + k) % 16 < 16 = omega arith in
    rw (← n) (sym (f (ws ((next + k) % 16)) (h _ d lt)))
