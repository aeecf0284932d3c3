use Rattle.note_voice.proofs.Sums.{IsAdded-same}
use Rattle.instrument.proofs.Begun.{slot_outputs, sum_is_mix}
use Rattle.instrument.proofs.Sums.{IsSmall-zeros}
use Rattle.instrument.proofs.slots.sound_all.Goals as goal

pub run_all-requires : goal.run_all-requires
run_all-requires c = IsSmall-zeros _ c.requires

pub returns : goal.returns
returns c = record {
  samples = λ ws h. IsAdded-same _ _ _ _ (c.run_all.ensures.samples _ (slot_outputs _ _ _ ws (c.begin_all-blocks.ensures ws h))) (λ j lt. sum_is_mix _ ws 16 j);
  passed = λ ws h. c.end_all.ensures _ _ ws (c.begin_all-blocks.ensures ws h) c.run_all.ensures.left;
}
