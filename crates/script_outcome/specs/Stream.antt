-- Where the last message of a stream begins.
use Rattle.std.specs.Prelude.{ℕ, ◌&&◌, ◌||◌, nat_lt, nat_le, not, Bool, List, [], ◌∷◌, ◌++◌, length, if◌then◌else◌}
use Rattle.midi_stream.specs.Messages.{is_unfinished}

-- a status byte; real-time bytes, from 248 on, may stand anywhere and are none
abbrev pub is_status : ℕ → Bool
is_status byte = nat_le 128 byte && nat_lt byte 248

-- a byte begins a message where it is a status byte, or where the bytes before it end within none
abbrev pub begins : List ℕ → ℕ → Bool
begins before byte = is_status byte || not (is_unfinished before)

-- where the last message begins in bytes after others, with where it began before them
unfoldable pub begun_after : List ℕ → ℕ → List ℕ → ℕ
begun_after before start [] = start
begun_after before start (byte ∷ bytes) =
    begun_after (before ++ byte ∷ []) (if begins before byte then length before else start) bytes

-- the place of the byte with which the last message of a stream began
unfoldable pub begun_at : List ℕ → ℕ
begun_at stream = begun_after [] 0 stream
