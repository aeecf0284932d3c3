use Rattle.voice_record.proofs.Packed.{IsFilled}
use Rattle.voice_record.proofs.packing.pack.Given as goal

abbrev pub invariant-loop-field : goal.invariant-loop-field
invariant-loop-field l = IsFilled l.fields l.bytes l.field
