use Rattle.std.proofs.Common.{ℕ, ◌<◌, pos, get_or, SFits, w32}
use Rattle.note_voice.proofs.Sums.{IsAddedUpTo}
use Rattle.note_voice.proofs.mix.add.Given as goal

abbrev pub invariant-loop-j : goal.invariant-loop-j
invariant-loop-j l = record {
  added : IsAddedUpTo l.j (λ j. get_or l.bus j (pos 0)) l.initial.mix l.mix;
  fits : (j : ℕ) → j < l.j → SFits w32 (get_or l.bus j (pos 0));
}
