-- The bytes of the order file and of the sound file.
use Rattle.std.specs.Prelude.{ℕ, zero, suc, ◌+◌, ◌*◌, ◌≤◌, List, [], ◌∷◌, ◌++◌, ℤ, codes, decimal}
use Rattle.std.specs.Int.{w16, w32, to_le_bytes, cast_unsigned}
use Rattle.std.specs.List.{flat_map}
use Rattle.plain_text.specs.Split.{spaced}
use Rattle.command_set.specs.Command.{IsInRange}
use Rattle.command_set.specs.Entries.{LoggedData}
use Rattle.command_set.specs.Text.{text}
use Rattle.instrument.specs.Journal.{sound}

-- the first line of an order, without its line feed: how many blocks its sound has, and how many scripts were played
unfoldable pub header_text : ℕ → ℕ → List ℕ
header_text blocks scripts = codes "order engine 1 blocks " ++ (decimal blocks ++ 32 ∷ (codes "scripts " ++ decimal scripts))

-- the first line of an order
unfoldable pub order_header : ℕ → ℕ → List ℕ
order_header blocks scripts = header_text blocks scripts ++ 10 ∷ []

-- BLOCK DUE SCRIPT SEQ TEXT, without the line feed
abbrev pub entry_text : LoggedData → List ℕ
entry_text l =
    spaced (decimal l.block) (decimal l.entry.sent_at ∷ decimal l.entry.script ∷ decimal l.entry.seq ∷ text l.entry.command ∷ [])

-- the line of an entry
unfoldable pub order_line : LoggedData → List ℕ
order_line l = entry_text l ++ 10 ∷ []

-- the order file
unfoldable pub order : List LoggedData → ℕ → ℕ → List ℕ
order journal blocks scripts = order_header blocks scripts ++ flat_map order_line journal

-- the header of the sound file: one channel of 16 bits at 44100 Hz, and 64 samples for each block
unfoldable pub wav_header : ℕ → List ℕ
wav_header blocks =
    codes "RIFF" ++ to_le_bytes w32 (36 + 128 * blocks) ++ codes "WAVEfmt " ++ to_le_bytes w32 16
    ++ to_le_bytes w16 1 ++ to_le_bytes w16 1 ++ to_le_bytes w32 44100 ++ to_le_bytes w32 88200
    ++ to_le_bytes w16 2 ++ to_le_bytes w16 16
    ++ codes "data" ++ to_le_bytes w32 (128 * blocks)

-- the two bytes of a sample, the lower one first
abbrev pub sample_bytes : ℤ → List ℕ
sample_bytes sample = to_le_bytes w16 (cast_unsigned w16 sample)

-- the bytes of a block
unfoldable pub wav_block : List ℤ → List ℕ
wav_block samples = flat_map sample_bytes samples

-- the bytes of the first blocks of a journal's sound
unfoldable pub wav_blocks : List LoggedData → ℕ → List ℕ
wav_blocks journal zero = []
wav_blocks journal (suc b) = wav_blocks journal b ++ wav_block (sound journal b)

-- the sound file
unfoldable pub wav : List LoggedData → ℕ → List ℕ
wav journal blocks = wav_header blocks ++ wav_blocks journal blocks

-- the commands are in range, and no block is below the one before
abbrev pub AreOrdered : ℕ → List LoggedData → Type 0
AreOrdered least [] = Unit {0}
AreOrdered least (l ∷ ls) = (least ≤ l.block) × IsInRange l.entry.command × AreOrdered l.block ls
