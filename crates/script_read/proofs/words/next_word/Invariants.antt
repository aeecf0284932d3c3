use Rattle.std.proofs.Common.{◌≡◌, length}
use Rattle.script_read.specs.Words.{text_after, words_of}
use Rattle.script_read.proofs.words.next_word.Given as goal

abbrev pub invariant-loop-word : goal.invariant-loop-word
invariant-loop-word l = record {
  words : words_of l.rest ≡ words_of l.line;
  text : text_after l.rest ≡ text_after l.line;
}

abbrev pub decreases-loop-word : goal.decreases-loop-word
decreases-loop-word l = length l.rest
