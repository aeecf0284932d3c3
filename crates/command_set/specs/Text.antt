-- The text of a command: the word of its kind, then its numbers in decimal digits or its bytes in hex, with one space between two.
use Rattle.std.specs.Prelude.{ℕ, ◌*◌, ◌^◌, ◌==◌, if◌then◌else◌, List, [], ◌∷◌, map, sum, codes, decimal, slice_index}
use Rattle.std.specs.List.{range_with_len, flat_map}
use Rattle.hex.specs.Hex.{encode_lower}
use Rattle.plain_text.specs.Split.{spaced}
use Rattle.voice_record.specs.Packing.{row_of}
use Rattle.command_set.specs.Command.{CommandData, StartsNote, EndsNote, Bends, Controls, PicksProgram, SetsParameter, StoresVoice}
use Rattle.command_set.specs.Command.{LoadsVoice, LoadsCartridge}

-- what a field of a voice adds to a packed byte
abbrev pub share : List ℕ → ℕ → ℕ → ℕ
share voice byte field = if (row_of field).byte == byte then slice_index voice field * 2 ^ (row_of field).shift else 0

-- the 128 packed bytes of a voice, with 0 in the unused bits
unfoldable pub packed : List ℕ → List ℕ
packed voice = map (λ byte. sum (map (share voice byte) (range_with_len 0 155))) (range_with_len 0 128)

-- the one text of a command
unfoldable pub text : CommandData → List ℕ
text (StartsNote channel key velocity) = spaced (codes "on") (decimal channel ∷ decimal key ∷ decimal velocity ∷ [])
text (EndsNote channel key) = spaced (codes "off") (decimal channel ∷ decimal key ∷ [])
text (Bends channel value) = spaced (codes "bend") (decimal channel ∷ decimal value ∷ [])
text (Controls channel number value) = spaced (codes "control") (decimal channel ∷ decimal number ∷ decimal value ∷ [])
text (PicksProgram channel number) = spaced (codes "program") (decimal channel ∷ decimal number ∷ [])
text (SetsParameter number value) = spaced (codes "param") (decimal number ∷ decimal value ∷ [])
text (StoresVoice slot) = spaced (codes "store") (decimal slot ∷ [])
text (LoadsVoice voice) = spaced (codes "voice") (encode_lower voice ∷ [])
text (LoadsCartridge voices) = spaced (codes "cartridge") (encode_lower (flat_map packed voices) ∷ [])
