use Rattle.std.proofs.Common.{◌≡◌, ◌-◌}
use Rattle.instrument.specs.State.{State, is_up, first_that, round_from}
use Rattle.instrument.specs.Instrument.{IsIn}
use Rattle.instrument.proofs.instrument.Instrument.free_slot.Given as goal

abbrev pub invariant-loop-k : goal.invariant-loop-k
invariant-loop-k l = (s : State) → IsIn l.self s → first_that (λ k. is_up (s.slots (round_from s.next k))) 0 16 ≡ first_that (λ k.
    is_up (s.slots (round_from s.next k))) l.k (16 - l.k)
