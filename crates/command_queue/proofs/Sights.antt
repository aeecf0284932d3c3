-- What an end's role says of its lessons.
use Rattle.std.proofs.Common.{◌≡◌, ℕ, ◌+◌, ◌<◌, ◌≤◌, List, ◌++◌, length, sym, ap, ◌∙◌, subst, arith}
use Rattle.std.proofs.Math.ListN.{length-append, length-map}
use Rattle.command_set.specs.Entries.{entry_data, sent_by}
use Rattle.command_set.specs.declared.entry.Entry.{Entry}
use Rattle.command_queue.specs.declared.rule.Role.{Role}
use Rattle.command_queue.specs.Entries.{IsLegal}
use Rattle.command_queue.specs.Rule.{plain, SenderSees}
use Rattle.command_queue.specs.Ends.{SendView, others_of, WasFull}
use Rattle.command_queue.proofs.Counts.{others_bound}

pub full_seen : (v : Role) (e : SendView) (items : List Entry) → v.number ≡ e.number → v.places ≡ e.line.places → v.quotas ≡ e.line.quotas → v.sent ≡ e.list
    → length items ≡ e.line.places → SenderSees v (plain items) → WasFull e
full_seen v e items number places quotas sent full s = (
  s.0,
  plain items,
  length-map items entry_data ∙ full,
  subst (λ (y : ℕ × List ℕ). IsLegal y.1 y.0 s.0 (plain items)) (λ i. (places i, quotas i)) s.1,
  sym sent ∙ s.2 ∙ ap (λ k. sent_by k (s.0 ++ plain items)) number,
)

pub full_room : (e : SendView) → e.number < length e.line.quotas → WasFull e → e.line.places ≤ length e.list + others_of e
full_room e lt s =
    let l : length e.list ≡ length (sent_by e.number (s.0 ++ s.1)) = ap length s.4 in
    let full = s.2 in
    omega (arith, others_bound e.line.quotas (s.0 ++ s.1) s.3.queued.made s.3.bounded e.number lt, length-append s.0 s.1)
