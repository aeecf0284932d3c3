use Rattle.std.proofs.Common.{◌∙◌, ◌+◌, ◌%◌, Some, ap, sym, option_map}
use Rattle.instrument.specs.State.{free_slot, round_from}
use Rattle.instrument.proofs.Rounds.{first_that_stops, first_that_goes_on, first_that_ends, up_is}
use Rattle.instrument.proofs.instrument.Instrument.free_slot.Goals as goal

pub loop-k-preserved : goal.loop-k-preserved
loop-k-preserved c = λ s h.
    c.loop-k.invariant s h ∙ first_that_goes_on _ c.loop-k.k c.loop-k-test.true (up_is _ s.slots _ _ c.loop-k.k _ _ h.next h.slots c.is_up.ensures
    ∙ c.if-is_up.false)

pub returns-then-is_up-clause-slot : goal.returns-then-is_up-clause-slot
unfolding free_slot
returns-then-is_up-clause-slot c = λ s h.
    let e = c.loop-k.invariant s h ∙ first_that_stops _ c.loop-k.k c.loop-k-test.true (up_is _ s.slots _ _ c.loop-k.k _ _ h.next h.slots c.is_up.ensures
    ∙ c.if-is_up.true) in
    ap (λ n. Some ((n + c.loop-k.k) % 16)) h.next ∙ sym (ap (option_map (round_from s.next)) e)

pub returns-clause-slot : goal.returns-clause-slot
unfolding free_slot
returns-clause-slot c = λ s h.
    let e = c.loop-k.invariant s h ∙ first_that_ends _ c.loop-k.k c.loop-k-test.false in
    sym (ap (option_map (round_from s.next)) e)
