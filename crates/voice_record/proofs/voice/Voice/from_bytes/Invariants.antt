use Rattle.std.proofs.Common.{◌≡◌, ℕ, ◌%◌, ◌<◌, length, get_or, min}
use Rattle.voice_record.specs.Voice.{greatest_value}
use Rattle.voice_record.proofs.voice.Voice.from_bytes.Given as goal

abbrev pub invariant-loop-number : goal.invariant-loop-number
invariant-loop-number l = record {
  count : length l.fields ≡ 155;
  filled : (k : ℕ) → k < l.number → get_or l.fields k 0 ≡ min (get_or l.bytes k 0 % 128) (greatest_value k);
}
