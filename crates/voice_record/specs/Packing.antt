-- The packed form of a voice: 128 bytes whose bits hold the 155 parameters.
use Rattle.std.specs.Prelude.{ℕ, ◌≡◌, ◌+◌, ◌-◌, ◌*◌, ◌/◌, ◌%◌, ◌^◌, ◌<◌, ◌≤◌, min, List, [], ◌∷◌, length, nat_lt, slice_index}
use Rattle.std.specs.Prelude.{slice_index_or, if◌then◌else◌}
use Rattle.std.specs.Int.{bit_at}
use Rattle.voice_record.specs.Voice.{greatest_value}

-- where a parameter lies: a byte, its lowest bit there, and the number of its bits
pub record Row : Type 0 where
  pub byte : ℕ
  pub shift : ℕ
  pub width : ℕ

-- byte, lowest bit and number of bits of an operator's 21 parameters, in their order, by the bytes of the operator
abbrev pub operator_rows : List (ℕ × ℕ × ℕ)
operator_rows =
    (0, 0, 7) ∷ (1, 0, 7) ∷ (2, 0, 7) ∷ (3, 0, 7)  -- rates
    ∷ (4, 0, 7) ∷ (5, 0, 7) ∷ (6, 0, 7) ∷ (7, 0, 7)  -- levels
    ∷ (8, 0, 7)  -- break point
    ∷ (9, 0, 7) ∷ (10, 0, 7)  -- left depth, right depth
    ∷ (11, 0, 2) ∷ (11, 2, 2)  -- left curve, right curve
    ∷ (12, 0, 3)  -- rate scaling
    ∷ (13, 0, 2)  -- amplitude modulation sensitivity
    ∷ (13, 2, 3)  -- key velocity sensitivity
    ∷ (14, 0, 7)  -- output level
    ∷ (15, 0, 1)  -- mode
    ∷ (15, 1, 5)  -- coarse
    ∷ (16, 0, 7)  -- fine
    ∷ (12, 3, 4)  -- detune
    ∷ []

-- the same of the parameters from 126 on, by the bytes of the voice
abbrev pub common_rows : List (ℕ × ℕ × ℕ)
common_rows =
    (102, 0, 7) ∷ (103, 0, 7) ∷ (104, 0, 7) ∷ (105, 0, 7)  -- pitch rates
    ∷ (106, 0, 7) ∷ (107, 0, 7) ∷ (108, 0, 7) ∷ (109, 0, 7)  -- pitch levels
    ∷ (110, 0, 5)  -- algorithm
    ∷ (111, 0, 3)  -- feedback
    ∷ (111, 3, 1)  -- oscillator key sync
    ∷ (112, 0, 7) ∷ (113, 0, 7) ∷ (114, 0, 7) ∷ (115, 0, 7)  -- LFO speed, delay, pitch depth, amplitude depth
    ∷ (116, 0, 1)  -- LFO sync
    ∷ (116, 1, 3)  -- LFO wave
    ∷ (116, 4, 3)  -- pitch modulation sensitivity
    ∷ (117, 0, 6)  -- transpose
    ∷ (118, 0, 7) ∷ (119, 0, 7) ∷ (120, 0, 7) ∷ (121, 0, 7) ∷ (122, 0, 7)  -- name
    ∷ (123, 0, 7) ∷ (124, 0, 7) ∷ (125, 0, 7) ∷ (126, 0, 7) ∷ (127, 0, 7)
    ∷ []

-- a row of a table whose bytes are counted from a start
abbrev pub placed : ℕ → ℕ × ℕ × ℕ → Row
placed start bits = record { byte = start + bits.0; shift = bits.1; width = bits.2 }

-- the row of a parameter, 0 to 154; each operator has 17 bytes
unfoldable pub row_of : ℕ → Row
row_of field =
    if nat_lt field 126 then placed (17 * (field / 21)) (slice_index_or operator_rows (field % 21) (0, 0, 0))
    else placed 0 (slice_index_or common_rows (field - 126) (0, 0, 0))

-- the bits of a parameter
abbrev pub bits_of : List ℕ → ℕ → ℕ
bits_of bytes field = slice_index bytes (row_of field).byte / 2 ^ (row_of field).shift % 2 ^ (row_of field).width

-- each parameter is the lesser of its greatest value and its bits
pub record Unpacks (bytes fields : List ℕ) : Type 0 where
  pub count : length fields ≡ 155
  pub rows : (field : ℕ) → field < 155 → slice_index fields field ≡ min (greatest_value field) (bits_of bytes field)

-- a bit of a byte that belongs to a parameter
abbrev pub IsUsed : ℕ → ℕ → Type 0
IsUsed byte bit =
    (field : ℕ) × (field < 155) × ((row_of field).byte ≡ byte) × ((row_of field).shift ≤ bit) × (bit < (row_of field).shift + (row_of field).width)

-- the one packed form of a voice: its unused bits are 0, and no parameter is above its greatest value
pub record Packs (fields bytes : List ℕ) : Type 0 where
  pub count : length bytes ≡ 128
  pub unpacks : Unpacks bytes fields
  pub unused : (byte bit : ℕ) → byte < 128 → ¬ IsUsed byte bit → bit_at (slice_index bytes byte) bit ≡ 0
  pub within : (field : ℕ) → field < 155 → bits_of bytes field ≤ greatest_value field
