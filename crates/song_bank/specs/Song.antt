-- A MIDI file with one more track, the first, which has the messages of some streams.
use Rattle.std.specs.Prelude.{ℕ, ◌+◌, List, [], ◌∷◌, ◌++◌, length, take, slice_range, codes}
use Rattle.std.specs.List.{flat_map}
use Rattle.byteorder.specs.Endian.{big_bytes}
use Rattle.midi_file.specs.Chunks.{after_chunk, chunk_length, track_count}
use Rattle.song_bank.specs.Messages.{ended_messages}
use Rattle.song_bank.specs.Event.{ended_event}

-- the events of a stream's messages
unfoldable pub stream_events : List ℕ → List ℕ
stream_events stream = flat_map ended_event (ended_messages stream)

-- the events of the messages of some streams, one stream after the other
abbrev pub events_of : List (List ℕ) → List ℕ
events_of streams = flat_map stream_events streams

-- the meta event that ends a track, with its delta time
abbrev pub end_of_track : List ℕ
end_of_track = 0 ∷ 255 ∷ 47 ∷ 0 ∷ []

-- a chunk: its name, the length of its bytes, and these
abbrev pub chunk : List ℕ → List ℕ → List ℕ
chunk name bytes = name ++ big_bytes 4 (length bytes) ++ bytes

-- the track of some events
abbrev pub track_of : List ℕ → List ℕ
track_of events = chunk (codes "MTrk") (events ++ end_of_track)

-- The header of a file in which there is one more track: its name and length as they are, format 1, the count of tracks and one, and the
-- rest as it is, the division and whatever stands after it.
abbrev pub header_with_track : List ℕ → List ℕ
header_with_track song =
    take 8 song ++ big_bytes 2 1 ++ big_bytes 2 (track_count song + 1) ++ slice_range song 12 (8 + chunk_length song)

-- the file with a first track of these events; all chunks after its header are as they are
unfoldable pub with_first_track : List ℕ → List ℕ → List ℕ
with_first_track song events = header_with_track song ++ track_of events ++ after_chunk song

-- the song with the messages of the streams before it
abbrev pub embedded : List ℕ → List (List ℕ) → List ℕ
embedded song streams = with_first_track song (events_of streams)
