-- The loop reads one field after the other.
use Rattle.std.proofs.Common.{◌<◌, ◌∙◌, min, length, arith, length-set}
use Rattle.std.proofs.lemmas.List.Edits.{fill_by_more}
use Rattle.voice_record.specs.Voice.{greatest_value}
use Rattle.voice_record.specs.Packing.{bits_of}
use Rattle.voice_record.proofs.packing.unpack.Goals as goal

pub loop-field-preserved : goal.loop-field-preserved
loop-field-preserved c =
    let lt : c.loop-field.field < length c.loop-field.fields = omega arith in
    record {
      count = length-set _ _ _ ∙ c.loop-field.invariant.count;
      filled = rw (c.min.ensures, c.greatest.ensures.value, c.bits.ensures)
          (fill_by_more (λ k. min (greatest_value k) (bits_of c.args.bytes.now k)) _ _ 0 lt c.loop-field.invariant.filled);
    }

pub returns : goal.returns
returns c = record {
  count = c.loop-field.invariant.count;
  rows = λ k l. c.loop-field.invariant.filled k (omega arith);
}
