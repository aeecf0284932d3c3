use Rattle.std.proofs.Common.{◌≡◌, ℤ, length}
use Rattle.note_voice.specs.Note.{NoteData, note_released}
use Rattle.note_voice.specs.Running.{AreOperators}
use Rattle.note_voice.proofs.Blocks.{ArePassedUpTo}
use Rattle.note_voice.proofs.operators.release_all.Given as goal

abbrev pub invariant-loop-k : goal.invariant-loop-k
invariant-loop-k l = record {
  len : length l.operators ≡ 6;
  states : (n : NoteData) (shift : ℤ) → AreOperators l.fn.operators shift n → ArePassedUpTo l.k shift shift n (note_released n) l.operators;
}
