use Rattle.std.proofs.Common.{◌<◌, length, map, string_bytes, sym, arith}
use Rattle.std.proofs.lemmas.List.{length-map}
use Rattle.play_core.proofs.Grammar.{few_words}
use Rattle.play_core.proofs.words.read_words.Goals as goal

pub returns-then-words-lt4 : goal.returns-then-words-lt4
returns-then-words-lt4 c =
    let few : length (map string_bytes c.args.words.now) < 4 = omega (arith, c.if-words-lt4.true, length-map c.args.words.now string_bytes) in
    record { asked = sym (few_words (map string_bytes c.args.words.now) few); request = tt }
