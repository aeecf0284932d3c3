use Rattle.std.proofs.Common.{sym, ◌∙◌, string_bytes}
use Rattle.std.proofs.lemmas.List.Folds.{list_all-map}
use Rattle.play_core.specs.Words as grammar
use Rattle.play_core.proofs.Grammar.{true_and}
use Rattle.play_core.proofs.words.are_scripts.Goals as goal

pub returns-then-has_valid_count-clause-value : goal.returns-then-has_valid_count-clause-value
returns-then-has_valid_count-clause-value c =
    c.have_own_names.ensures
    ∙ sym (list_all-map (λ name. grammar.is_script c.args.out.now c.args.order.now name) string_bytes c.args.scripts.now)
    ∙ true_and _ _ (sym c.has_valid_count.ensures.value ∙ c.if-has_valid_count.true)
