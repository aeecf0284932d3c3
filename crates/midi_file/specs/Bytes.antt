-- Parts of a MIDI file at the beginning of bytes.
use Rattle.std.specs.Prelude.{ℕ, zero, suc, ◌+◌, ◌-◌, ◌*◌, nat_lt, List, [], ◌∷◌, drop, length, take, if◌then◌else◌}
use Rattle.byteorder.specs.Endian.{big_number}
use Rattle.script_outcome.specs.declared.fault.ScriptKind.{ScriptKind}
use Rattle.script_outcome.specs.declared.fault.ScriptKind.TheVariants as kind

-- a part with the bytes after it, or why there is none
pub data Parsed (X : Type 0) : Type 0 where
  Got : X → List ℕ → Parsed X
  Lacks : ScriptKind → Parsed X

-- the number in so many bytes from a place on, the highest first
abbrev pub number_at : ℕ → ℕ → List ℕ → ℕ
number_at place count bytes = big_number count (drop place bytes)

-- The rest of a variable-length quantity of at most so many bytes, after those that wrote the number so far. Each byte adds 7 bits, and
-- each but the last has its high bit set.
unfoldable pub quantity_after : ℕ → ℕ → List ℕ → Parsed ℕ
quantity_after zero so_far bytes = Lacks kind.Event
quantity_after (suc more) so_far [] = Lacks kind.Cut
quantity_after (suc more) so_far (byte ∷ bytes) =
    if nat_lt byte 128 then Got (so_far * 128 + byte) bytes
    else quantity_after more (so_far * 128 + (byte - 128)) bytes

-- a variable-length quantity, of at most four bytes
abbrev pub quantity : List ℕ → Parsed ℕ
quantity bytes = quantity_after 4 0 bytes

-- a data byte
abbrev pub data_byte : List ℕ → Parsed ℕ
data_byte [] = Lacks kind.Cut
data_byte (byte ∷ bytes) = if nat_lt byte 128 then Got byte bytes else Lacks kind.Event

-- so many bytes
abbrev pub so_many : Parsed ℕ → Parsed (List ℕ)
so_many (Got count bytes) = if nat_lt (length bytes) count then Lacks kind.Cut else Got (take count bytes) (drop count bytes)
so_many (Lacks why) = Lacks why

-- a quantity, and as many bytes as it says
unfoldable pub counted_bytes : List ℕ → Parsed (List ℕ)
counted_bytes bytes = so_many (quantity bytes)
