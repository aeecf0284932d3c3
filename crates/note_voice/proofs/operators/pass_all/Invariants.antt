use Rattle.std.proofs.Common.{◌≡◌, ℤ, length}
use Rattle.note_voice.specs.Modulation.{Modulation}
use Rattle.note_voice.specs.Note.{NoteData, after_block}
use Rattle.note_voice.specs.Running.{AreOperators, IsModulated}
use Rattle.note_voice.proofs.Blocks.{ArePassedUpTo, AreAudibleUpTo, HaveGainsUpTo}
use Rattle.note_voice.proofs.operators.pass_all.Given as goal

abbrev pub invariant-loop-k : goal.invariant-loop-k
invariant-loop-k l = record {
  len : length l.operators ≡ 6;
  ops_len : length l.ops ≡ 6;
  gains : HaveGainsUpTo l.k l.ops;
  states : (n : NoteData) (m : Modulation) (shift : ℤ) → IsModulated l.switch shift l.lfo l.lfo_depth n m → AreOperators l.fn.operators shift n
      → ArePassedUpTo l.k shift shift n (after_block n m) l.operators;
  blocks : (n : NoteData) (m : Modulation) (shift : ℤ) → IsModulated l.switch shift l.lfo l.lfo_depth n m → AreOperators l.fn.operators shift n
      → AreAudibleUpTo l.k (after_block n m) (length n.past) l.ops;
}
