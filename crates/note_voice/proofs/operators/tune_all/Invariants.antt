use Rattle.std.proofs.Common.{◌≡◌, length}
use Rattle.note_voice.specs.Note.{NoteData}
use Rattle.note_voice.specs.Running.{AreOperators}
use Rattle.note_voice.proofs.Blocks.{ArePassedUpTo}
use Rattle.note_voice.proofs.operators.tune_all.Given as goal

abbrev pub invariant-loop-k : goal.invariant-loop-k
invariant-loop-k l = record {
  len : length l.operators ≡ 6;
  states : (n : NoteData) → AreOperators l.fn.operators l.before n → ArePassedUpTo l.k l.before l.shift n n l.operators;
}
