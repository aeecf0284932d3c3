-- The header and the tracks of a MIDI file.
use Rattle.std.specs.Prelude.{ℕ, zero, suc, ◌+◌, ◌-◌, ◌==◌, ◌||◌, nat_lt, nat_le, nat_eq, Bool, List, [], ◌∷◌, ◌++◌, codes, drop}
use Rattle.std.specs.Prelude.{length, take, Option, Some, None, if◌then◌else◌}
use Rattle.std.specs.List.{flat_map, starts_with}
use Rattle.script_outcome.specs.declared.fault.ScriptKind.{ScriptKind}
use Rattle.script_outcome.specs.declared.fault.ScriptKind.TheVariants as kind
use Rattle.midi_file.specs.Bytes.{number_at}
use Rattle.midi_file.specs.Track.{TrackOutcome, Breaks, track_outcomes}

-- the length that a chunk says, after the four bytes of its name
abbrev pub chunk_length : List ℕ → ℕ
chunk_length bytes = number_at 4 4 bytes

-- the bytes after a chunk
abbrev pub after_chunk : List ℕ → List ℕ
after_chunk bytes = drop (8 + chunk_length bytes) bytes

-- the bytes of a chunk after its name and its length
abbrev pub chunk_bytes : List ℕ → List ℕ
chunk_bytes bytes = take (chunk_length bytes) (drop 8 bytes)

-- the division: ticks for a quarter note
abbrev pub division_of : List ℕ → ℕ
division_of bytes = number_at 12 2 bytes

-- how many tracks are counted
abbrev pub track_count : List ℕ → ℕ
track_count bytes = number_at 10 2 bytes

-- what is wrong with the header, and the byte where
unfoldable pub header_fault : List ℕ → Option (ℕ × ScriptKind)
header_fault bytes =
    if nat_lt (length bytes) 8 then Some (4, kind.Cut)
    else if nat_lt (chunk_length bytes) 6 then Some (4, kind.Header)
    else if nat_lt (length bytes) (8 + chunk_length bytes) then Some (4, kind.Cut)
    else if nat_lt 1 (number_at 8 2 bytes) then Some (8, kind.Format)
    else if division_of bytes == 0 || nat_le 32768 (division_of bytes) then Some (12, kind.Division)
    else None

-- the byte at which the file's end cuts off a chunk, in the last bytes of a file of this size: that of its name, or that of its length
unfoldable pub chunk_cut : ℕ → List ℕ → Option ℕ
chunk_cut size rest =
    if nat_lt (length rest) 4 then Some (size - length rest)
    else if nat_lt (length rest) 8 then Some (size - length rest + 4)
    else if nat_lt (length rest) (8 + chunk_length rest) then Some (size - length rest + 4)
    else None

-- a track with the place of its end, or the place at which the file is cut
pub data Chunk : Type 0 where
  Track : ℕ → List ℕ → Chunk
  CutAt : ℕ → Chunk

-- the chunk is a track
abbrev pub is_track : List ℕ → Bool
is_track bytes = starts_with nat_eq bytes (codes "MTrk")

-- a cut, or else these
abbrev pub unless_cut : Option ℕ → List Chunk → List Chunk
unless_cut None later = later
unless_cut (Some place) later = CutAt place ∷ []

-- The tracks in the last bytes of a file of this size, so many of them; other chunks are passed over. Chunks are at most so many: each has
-- eight bytes at least.
unfoldable pub tracks_in : ℕ → ℕ → ℕ → List ℕ → List Chunk
tracks_in zero size wanted rest = []
tracks_in (suc more) size wanted rest =
    if wanted == 0 then []
    else unless_cut (chunk_cut size rest)
    (if is_track rest then Track (size - length (after_chunk rest)) (chunk_bytes rest) ∷ tracks_in more size (wanted - 1) (after_chunk rest)
    else tracks_in more size wanted (after_chunk rest))

abbrev pub chunk_outcomes : Chunk → List TrackOutcome
chunk_outcomes (Track end bytes) = track_outcomes end bytes
chunk_outcomes (CutAt place) = Breaks place kind.Cut ∷ []

-- what happens in the last bytes of a file
abbrev pub tracks_outcomes : ℕ → ℕ → ℕ → List ℕ → List TrackOutcome
tracks_outcomes more size wanted rest = flat_map chunk_outcomes (tracks_in more size wanted rest)

abbrev pub breaks : Option (ℕ × ScriptKind) → List TrackOutcome
breaks None = []
breaks (Some fault) = Breaks fault.0 fault.1 ∷ []

-- what happens in a file, in the order of its bytes: track by track, each from its first event to its last
unfoldable pub file_outcomes : List ℕ → List TrackOutcome
file_outcomes bytes = breaks (header_fault bytes) ++ tracks_outcomes (length bytes) (length bytes) (track_count bytes) (after_chunk bytes)
