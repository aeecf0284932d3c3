use Rattle.std.proofs.Common.{◌<◌, ◌++◌, length}
use Rattle.midi_file.specs.Chunks.{tracks_outcomes}
use Rattle.midi_file.specs.FileSoFar.{all_come}
use Rattle.midi_file.proofs.Files.{IsWithinFile}
use Rattle.midi_file.proofs.chunk.read_tracks.Given as goal

abbrev pub invariant-loop-wanted : goal.invariant-loop-wanted
invariant-loop-wanted g l = record {
  short : length l.rest < l.size;
  within : IsWithinFile l.size l.wanted l.rest l.acts.items (all_come l.fn.acts.items ++ tracks_outcomes l.size l.size l.tracks l.bytes);
}

abbrev pub decreases-loop-wanted : goal.decreases-loop-wanted
decreases-loop-wanted g l = length l.rest
