-- The loop clamps one number after the other.
use Rattle.std.proofs.Common.{◌<◌, ◌%◌, ◌∙◌, min, length, get_or, arith, length-set}
use Rattle.std.proofs.lemmas.List.Edits.{fill_by_more}
use Rattle.voice_record.specs.Voice.{greatest_value}
use Rattle.voice_record.proofs.Voices.{clamped_is_voice, clamped_same}
use Rattle.voice_record.proofs.voice.Voice.from_bytes.Goals as goal

pub loop-number-preserved : goal.loop-number-preserved
loop-number-preserved c =
    let lt : c.loop-number.number < length c.loop-number.fields = omega arith in
    record {
      count = length-set _ _ _ ∙ c.loop-number.invariant.count;
      filled = rw (c.min.ensures, c.greatest.ensures.value)
          (fill_by_more (λ k. min (get_or c.args.bytes.now k 0 % 128) (greatest_value k)) _ _ 0 lt c.loop-number.invariant.filled);
    }

pub invariant_of-result : goal.invariant_of-result
invariant_of-result c =
    clamped_is_voice c.args.bytes.now _ (record { count = c.loop-number.invariant.count; clamped = λ k l. c.loop-number.invariant.filled k (omega arith) })

pub returns-clause-clamped : goal.returns-clause-clamped
returns-clause-clamped c = record {
  count = c.loop-number.invariant.count;
  clamped = λ k l. c.loop-number.invariant.filled k (omega arith);
}

pub returns-clause-same : goal.returns-clause-same
returns-clause-same c =
    clamped_same _ _ (record { count = c.loop-number.invariant.count; clamped = λ k l. c.loop-number.invariant.filled k (omega arith) })

pub returns-clause-voice : goal.returns-clause-voice
returns-clause-voice c =
    clamped_is_voice c.args.bytes.now _ (record { count = c.loop-number.invariant.count; clamped = λ k l. c.loop-number.invariant.filled k (omega arith) })
