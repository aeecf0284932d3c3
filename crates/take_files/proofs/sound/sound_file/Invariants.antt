use Rattle.std.proofs.Common.{◌≡◌, ◌++◌}
use Rattle.command_set.specs.Entries.{journal_data}
use Rattle.take_files.specs.Files.{wav_header, wav_blocks}
use Rattle.take_files.proofs.sound.sound_file.Given as goal

abbrev pub invariant-playing : goal.invariant-playing
invariant-playing l = record {
  sound : l.sound.items ≡ wav_header l.blocks ++ wav_blocks (journal_data l.journal) l.counter;
  playback : l.playback ≡ record { journal = journal_data l.journal; block = l.counter };
}
