-- The entries that an end gains, with commands in range.
use Rattle.std.proofs.Common.{◌≡◌, List, [], ◌∷◌, ◌++◌, ap, sym, ◌∙◌, append_assoc, append-nil}
use Rattle.std.proofs.lemmas.List.Elements.{All-nil, All-append, All-push}
use Rattle.command_set.specs.Command.{CommandData, IsInRange}
use Rattle.command_set.specs.Entries.{EntryData}
use Rattle.command_queue.specs.Ends.{SendView, accepted, entry_of}
use Rattle.port.specs.Ranges.{SendsInRange}

pub sends_same : (old new : SendView) → new.list ≡ old.list → SendsInRange old new
sends_same old new e = record {
  entries = [];
  list = e ∙ sym (append-nil old.list);
  ranges = All-nil (λ (x : EntryData). IsInRange x.command);
}

pub sends_one : (old new : SendView) (command : CommandData) → IsInRange command → new ≡ accepted old (entry_of old 0 command) → SendsInRange old new
sends_one old new command range e = record {
  entries = entry_of old 0 command ∷ [];
  list = ap (λ (v : SendView). v.list) e;
  ranges = All-push (λ (x : EntryData). IsInRange x.command) [] (entry_of old 0 command) (All-nil (λ (x : EntryData). IsInRange x.command)) range;
}

pub sends_more : (old between new : SendView) → SendsInRange old between → SendsInRange between new → SendsInRange old new
sends_more old between new a b = record {
  entries = a.entries ++ b.entries;
  list = b.list ∙ ap (λ (xs : List EntryData). xs ++ b.entries) a.list ∙ append_assoc old.list a.entries b.entries;
  ranges = All-append (λ (x : EntryData). IsInRange x.command) a.entries b.entries a.ranges b.ranges;
}
