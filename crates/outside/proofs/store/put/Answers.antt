use Rattle.std.proofs.Common.{List, ℕ, ◌∙◌, ap}
use Rattle.std.specs.FinMap.{insert}
use Rattle.outside.specs.Memory.{files_in}
use Rattle.outside.proofs.Memories.{files_in-insert}
use Rattle.outside.proofs.store.put.Goals as goal

pub returns-clause-ok : goal.returns-clause-ok
returns-clause-ok c =
    ap files_in c.in_ok-insert.ensures.entries ∙ files_in-insert c.args.files.now.entries _ c.args.bytes
    ∙ ap (λ (n : List ℕ). insert (files_in c.args.files.now.entries) n c.args.bytes.items) c.in_ok-key.ensures.ok
