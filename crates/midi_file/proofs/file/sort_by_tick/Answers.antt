use Rattle.std.proofs.Common.{rules}
use Rattle.std.proofs.lemmas.List.Sorted.{IsNonDecreasingBy-from_sort_by_key, answers_always}
use Rattle.midi_file.proofs.Order.{rises_in_time, sorted_is}
use Rattle.midi_file.specs.Track.{TimedData}
use Rattle.midi_file.proofs.file.sort_by_tick.Goals as goal

pub returns-in-Ok-clause-order : goal.returns-in-Ok-clause-order
returns-in-Ok-clause-order c =
    sorted_is c.args.acts.now.items c.sort_by_key.new.self.items
    (IsNonDecreasingBy-from_sort_by_key (λ (e : TimedData). e.tick) _ c.in-Ok.ensures.sorted (λ a r q k. search rules))
    (c.in-Ok.ensures.stable (λ (e : TimedData). e.tick) (answers_always _ _ _ (λ f a r g h. search rules)))

pub returns-in-Ok-clause-time : goal.returns-in-Ok-clause-time
returns-in-Ok-clause-time c =
    rises_in_time c.sort_by_key.new.self.items
    (IsNonDecreasingBy-from_sort_by_key (λ (e : TimedData). e.tick) _ c.in-Ok.ensures.sorted (λ a r q k. search rules))
