use Rattle.std.proofs.Common.{◌+◌, ◌^◌, ◌≤◌, ap, sym, arith}
use Rattle.algorithm_bus.specs.Buses.{op_of}
use Rattle.algorithm_bus.specs.NoteBlocks.{block_input}
use Rattle.note_voice.proofs.Sums.{IsAdded-bus, IsAdded-silence, IsSmall-more}
use Rattle.note_voice.proofs.sound.sound_routed.Goals as goal

pub returns-then-not-is_audible : goal.returns-then-not-is_audible
returns-then-not-is_audible c = record {
  samples = λ before h. IsAdded-silence _ _ c.told-mix (c.is_audible.ensures.whatever_state c.if-not-is_audible.true (block_input before) (sym h.kept.0)
      (ap op_of (sym h.kept.2)));
  small = λ b s. IsSmall-more _ _ _ (omega arith) s;
}

pub returns : goal.returns
returns c = record {
  samples = λ before h. IsAdded-bus _ _ _ _ (c.run_routed.ensures (block_input before) (sym h.kept.0) (ap op_of (sym h.kept.2)) h.samples)
      c.add.ensures.samples;
  small = c.add.ensures.small;
}
