use Rattle.std.proofs.Common.{◌≡◌, ◌≤◌, ◌-◌, ◌+◌, ◌*◌, ◌++◌, length}
use Rattle.take_files.specs.Files.{wav_blocks}
use Rattle.tool_core.proofs.comparison.render_sound_chunk.Given as goal

abbrev pub invariant-chunks : goal.invariant-chunks
invariant-chunks l = record {
  within : l.done ≤ l.count;
  journal : l.playback.journal ≡ l.fn.playback.journal;
  block : l.playback.block ≡ l.fn.playback.block + l.done;
  size : length l.into.items ≡ 128 * l.done;
  bytes : wav_blocks l.fn.playback.journal (l.fn.playback.block + l.done) ≡ wav_blocks l.fn.playback.journal l.fn.playback.block ++ l.into.items;
}

abbrev pub decreases-chunks : goal.decreases-chunks
decreases-chunks l = l.count - l.done
