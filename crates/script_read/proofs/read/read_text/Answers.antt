use Rattle.std.proofs.Common.{List, ℕ, ◌∷◌, ap, sym, subst, ◌∙◌}
use Rattle.script_read.specs.Words.{lines_of}
use Rattle.script_read.specs.Plan.{lines_outcomes}
use Rattle.script_outcome.specs.ReaderAnswer.{Settles}
use Rattle.script_read.proofs.LineOutcomes.{lines_first, lines_last}
use Rattle.script_read.proofs.read.read_text.Goals as goal

pub returns-in-Some : goal.returns-in-Some
returns-in-Some g c =
    subst (λ (ls : List (List ℕ)). Settles c.read_kind.result c.args.bounds.room (lines_outcomes c.args.bounds.blocks ls))
    (ap (λ (l : List ℕ). l ∷ lines_of c.in-Some.rest.now) c.without_return.ensures
    ∙ sym (lines_first c.args.text.now c.in-Some.first.now c.in-Some.rest.now c.in-Some.ensures.cut))
    c.read_kind.ensures

pub returns-in-None : goal.returns-in-None
returns-in-None g c =
    subst (λ (ls : List (List ℕ)). Settles c.read_lone.result c.args.bounds.room (lines_outcomes c.args.bounds.blocks ls))
    (sym (lines_last c.args.text.now c.in-None.ensures.whole)) (c.read_lone.ensures c.args.bounds.blocks c.args.bounds.room)
