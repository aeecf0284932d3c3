use Rattle.command_set.specs.Command.{content}
use Rattle.std.proofs.lemmas.Result.{IfOk-weaker}
use Rattle.command_set.proofs.Reading.{text_words, words_text, only_words}
use Rattle.command_set.proofs.command.Command.read_text.Goals as goal

pub returns-clause-text : goal.returns-clause-text
returns-clause-text c = IfOk-weaker c.read_words.result _ _ (λ x said. words_text (content x) c.args.text.now said) c.read_words.ensures.read

pub returns-clause-only : goal.returns-clause-only
returns-clause-only c = IfOk-weaker c.read_words.result _ _ (λ x said d r same. only_words (content x) d c.args.text.now said r same) c.read_words.ensures.read

pub returns-clause-refused : goal.returns-clause-refused
returns-clause-refused c = λ e d r same. c.read_words.ensures.refused e d r (text_words d c.args.text.now r same)

pub returns-clause-memory : goal.returns-clause-memory
returns-clause-memory c =
    λ e. let found = c.read_words.ensures.memory e in (found.0, found.1.0, words_text found.0 c.args.text.now found.1)
