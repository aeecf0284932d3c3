-- For private functions and proofs: the segments of a stream where one more byte comes.
use Rattle.std.specs.Prelude.{ℕ, List, [], ◌∷◌, ◌++◌, if◌then◌else◌}
use Rattle.midi_stream.specs.Segments.{Segment, is_data}

-- the segments where one more data byte comes
abbrev pub grown : Segment → ℕ → Segment
grown segment byte = record { status = segment.status; data_bytes = segment.data_bytes ++ byte ∷ [] }

abbrev pub extended : List Segment → ℕ → List Segment
extended [] byte = []
extended (segment ∷ []) byte = grown segment byte ∷ []
extended (segment ∷ next ∷ later) byte = segment ∷ extended (next ∷ later) byte

-- the segments where one more status byte comes
abbrev pub begun : ℕ → Segment
begun status = record { status = status; data_bytes = [] }

abbrev pub with_status : List Segment → ℕ → List Segment
with_status parts status = parts ++ begun status ∷ []

-- the segments where one more byte comes that is not a real-time byte
abbrev pub with_byte : List Segment → ℕ → List Segment
with_byte parts byte = if is_data byte then extended parts byte else with_status parts byte
