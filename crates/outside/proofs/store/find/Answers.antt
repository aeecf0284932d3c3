use Rattle.std.proofs.Common.{List, ℕ, sym, ◌∙◌, ap, Some, option_map}
use Rattle.outside.proofs.Memories.{get-files_in}
use Rattle.outside.proofs.store.find.Goals as goal

pub returns-in-Some : goal.returns-in-Some
returns-in-Some c =
    ap (λ (l : List ℕ). Some l) c.as_slice.ensures.value ∙ ap (option_map (λ v. v.items)) c.in-Some.ensures.value
    ∙ sym (get-files_in c.args.files.now.entries c.args.name.now)

pub returns-in-None : goal.returns-in-None
returns-in-None c = ap (option_map (λ v. v.items)) c.in-None.ensures.value ∙ sym (get-files_in c.args.files.now.entries c.args.name.now)
