use Rattle.std.proofs.Common.{List, ℕ, ap, ◌∙◌, ◌≡◌, ◌++◌}
use Rattle.midi_file.specs.Chunks.{after_chunk}
use Rattle.song_bank.specs.Song.{header_with_track, track_of, with_first_track}
use Rattle.song_bank.proofs.Whole.{first_chunks_are, leads}
use Rattle.song_bank.proofs.bank.Bank.first_chunks.Goals as goal

pub returns-clause-whole : goal.returns-clause-whole
returns-clause-whole c =
    first_chunks_are c.args.song.now c.args.self.now c.new-start.result.items c.push_header.new.bytes.items c.push_track.new.bytes.items
    c.new-start.ensures.items c.in_ok-push_header.ensures c.in_ok-push_track.ensures

pub returns-clause-leads : goal.returns-clause-leads
returns-clause-leads c = λ streams events_are sound faultless.
    leads c.args.song.now c.args.self.now (c.push_track.new.bytes.items ++ after_chunk c.args.song.now) streams c.requires.name c.requires.header
    c.requires.tracks c.requires.small events_are
    (first_chunks_are c.args.song.now c.args.self.now c.new-start.result.items c.push_header.new.bytes.items c.push_track.new.bytes.items
    c.new-start.ensures.items c.in_ok-push_header.ensures c.in_ok-push_track.ensures) sound faultless
