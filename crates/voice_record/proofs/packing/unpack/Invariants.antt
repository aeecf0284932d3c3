use Rattle.std.proofs.Common.{◌≡◌, ℕ, ◌<◌, length, get_or, min}
use Rattle.voice_record.specs.Voice.{greatest_value}
use Rattle.voice_record.specs.Packing.{bits_of}
use Rattle.voice_record.proofs.packing.unpack.Given as goal

abbrev pub invariant-loop-field : goal.invariant-loop-field
invariant-loop-field l = record {
  count : length l.fields ≡ 155;
  filled : (k : ℕ) → k < l.field → get_or l.fields k 0 ≡ min (greatest_value k) (bits_of l.bytes k);
}
