-- A cartridge: 32 voices, and the 4096 bytes that hold them packed, 128 a slot.
use Rattle.std.specs.Prelude.{ℕ, ◌≡◌, ◌+◌, ◌*◌, ◌<◌, min, map, List, [], length, slice_index_or, slice_range}
use Rattle.std.specs.List.{range_with_len}
use Rattle.voice_record.specs.Voice.{IsVoice, greatest_value}
use Rattle.voice_record.specs.Packing.{bits_of, Packs, Unpacks}
use Rattle.sysex_frame.specs.Frame.{IsFrame, CartridgeDump}

-- the voice of a slot
abbrev pub voice_at : List (List ℕ) → ℕ → List ℕ
voice_at voices slot = slice_index_or voices slot []

-- the bytes of a slot
abbrev pub slot_bytes : List ℕ → ℕ → List ℕ
slot_bytes bytes slot = slice_range bytes (128 * slot) (128 * slot + 128)

-- 32 voices
pub record IsCartridge (voices : List (List ℕ)) : Type 0 where
  pub count : length voices ≡ 32
  pub slots : (slot : ℕ) → slot < 32 → IsVoice (voice_at voices slot)

-- the voice of each slot is what the bytes of the slot unpack to
pub record UnpacksAll (bytes : List ℕ) (voices : List (List ℕ)) : Type 0 where
  pub count : length voices ≡ 32
  pub slots : (slot : ℕ) → slot < 32 → Unpacks (slot_bytes bytes slot) (voice_at voices slot)

-- the bytes of each slot are the packed form of its voice
pub record PacksAll (voices : List (List ℕ)) (bytes : List ℕ) : Type 0 where
  pub count : length voices ≡ 32
  pub size : length bytes ≡ 4096
  pub slots : (slot : ℕ) → slot < 32 → Packs (voice_at voices slot) (slot_bytes bytes slot)

-- the dump of a cartridge: its payload is the packed form of the 32 voices
pub record IsMessageOf (voices : List (List ℕ)) (device : ℕ) (text : List ℕ) : Type 0 where
  pub payload : List ℕ
  pub packed : PacksAll voices payload
  pub frame : IsFrame text (CartridgeDump device payload)

-- the voice that packed bytes hold, field by field
unfoldable pub unpacked : List ℕ → List ℕ
unpacked bytes = map (λ field. min (greatest_value field) (bits_of bytes field)) (range_with_len 0 155)

-- the 32 voices that packed bytes hold
unfoldable pub voices_of : List ℕ → List (List ℕ)
voices_of bytes = map (λ slot. unpacked (slot_bytes bytes slot)) (range_with_len 0 32)
