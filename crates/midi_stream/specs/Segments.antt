-- A stream of MIDI bytes, cut into segments: a status byte with the data bytes after it.
use Rattle.std.specs.Prelude.{ℕ, nat_lt, Bool, List, [], ◌∷◌, ◌++◌, filter, if◌then◌else◌}

-- the stream without its real-time bytes, 248 to 255, which may stand anywhere
abbrev pub clean : List ℕ → List ℕ
clean bytes = filter (λ byte. nat_lt byte 248) bytes

abbrev pub is_data : ℕ → Bool
is_data byte = nat_lt byte 128

-- a status byte, and the data bytes up to the next one
pub record Segment : Type 0 where
  pub status : ℕ
  pub data_bytes : List ℕ

-- the data bytes at the beginning
abbrev pub leading_data : List ℕ → List ℕ
leading_data [] = []
leading_data (byte ∷ bytes) = if is_data byte then byte ∷ leading_data bytes else []

-- the segments of clean bytes: one for each status byte. Data bytes before the first are in none
abbrev pub segments : List ℕ → List Segment
segments [] = []
segments (byte ∷ bytes) =
    if is_data byte then segments bytes
    else record { status = byte; data_bytes = leading_data bytes } ∷ segments bytes

-- where there is no segment
abbrev pub no_segment : Segment
no_segment = record { status = 0; data_bytes = [] }

abbrev pub last_segment : List Segment → Segment
last_segment [] = no_segment
last_segment (segment ∷ []) = segment
last_segment (segment ∷ next ∷ later) = last_segment (next ∷ later)
