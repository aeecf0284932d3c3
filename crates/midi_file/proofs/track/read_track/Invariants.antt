use Rattle.std.proofs.Common.{◌≤◌, ◌+◌, ◌*◌, ◌++◌, length}
use Rattle.midi_file.specs.Track.{track_outcomes}
use Rattle.midi_file.specs.FileSoFar.{all_come}
use Rattle.midi_file.proofs.Tracks.{IsWithinTrack}
use Rattle.midi_file.proofs.track.read_track.Given as goal

abbrev pub invariant-loop-rest : goal.invariant-loop-rest
invariant-loop-rest g l = record {
  short : length l.rest ≤ length l.bytes;
  early : l.tick + 4294967296 * length l.rest ≤ 4294967296 * length l.bytes;
  within : IsWithinTrack l.reader l.end l.tick l.running l.rest l.acts.items (all_come l.fn.acts.items ++ track_outcomes l.end l.bytes);
}

abbrev pub decreases-loop-rest : goal.decreases-loop-rest
decreases-loop-rest g l = length l.rest
