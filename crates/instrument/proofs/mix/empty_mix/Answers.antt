use Rattle.std.proofs.Common.{pos}
use Rattle.std.proofs.lemmas.List.{get_or-replicate}
use Rattle.instrument.proofs.mix.empty_mix.Goals as goal

pub returns : goal.returns
returns c = λ j lt. get_or-replicate 64 j (pos 0) (pos 0) lt
