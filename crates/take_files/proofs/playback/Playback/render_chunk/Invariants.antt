use Rattle.std.proofs.Common.{◌≡◌, ◌+◌, ◌++◌, ◌*◌, length}
use Rattle.take_files.specs.Files.{wav_blocks}
use Rattle.take_files.proofs.playback.Playback.render_chunk.Given as goal

abbrev pub invariant-playing : goal.invariant-playing
invariant-playing l = record {
  bytes : wav_blocks l.fn.self.journal (l.fn.self.block + l.counter) ≡ wav_blocks l.fn.self.journal l.fn.self.block ++ l.into.items;
  played : l.self ≡ record l.fn.self { block = l.fn.self.block + l.counter };
  size : length l.into.items ≡ 128 * l.counter;
}
