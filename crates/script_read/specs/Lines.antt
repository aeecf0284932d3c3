-- The lines of a text script, parsed.
use Rattle.std.specs.Prelude.{ℕ, ◌^◌, ◌-◌, ◌==◌, Bool, false, List, [], ◌∷◌, codes, bytes_eq, map, Option, Some, None, if◌then◌else◌}
use Rattle.velocity_map.specs.declared.curve.Curve.{Curve}
use Rattle.velocity_map.specs.declared.curve.Curve.TheVariants.{Linear, Soft, Hard}
use Rattle.command_set.specs.Command.{CommandData}
use Rattle.script_read.specs.Words.{hex_bytes, number_to, words_of}
use Rattle.script_read.specs.Grammar.{parsed_command}

-- a parsed line: nothing, it is passed over; or the curve of the lines after it; or a command at a block; or MIDI bytes at a block; or
-- it isn't of the grammar
pub data ParsedLine : Type 0 where
  Blank : ParsedLine
  Maps : Curve → ParsedLine
  Orders : ℕ → CommandData → ParsedLine
  Feeds : ℕ → List ℕ → ParsedLine
  Wrong : ParsedLine

-- `map` and the name of a curve
abbrev pub parsed_map : List (List ℕ) → ParsedLine
parsed_map [] = Wrong
parsed_map (name ∷ []) =
    if bytes_eq name (codes "linear") then Maps Linear
    else if bytes_eq name (codes "soft") then Maps Soft
    else if bytes_eq name (codes "hard") then Maps Hard
    else Wrong
parsed_map (name ∷ next ∷ more) = Wrong

abbrev pub ordered : ℕ → Option CommandData → ParsedLine
ordered block None = Wrong
ordered block (Some command) = Orders block command

abbrev pub fed : ℕ → Option (List ℕ) → ParsedLine
fed block None = Wrong
fed block (Some bytes) = Feeds block bytes

-- `bytes` and hex digits
abbrev pub parsed_one_word : ℕ → List ℕ → List ℕ → ParsedLine
parsed_one_word block kind word =
    if bytes_eq kind (codes "bytes") then fed block (hex_bytes word) else ordered block (parsed_command (kind ∷ word ∷ []))

-- what stands after a block
abbrev pub parsed_at : ℕ → List (List ℕ) → ParsedLine
parsed_at block [] = Wrong
parsed_at block (kind ∷ []) = Wrong
parsed_at block (kind ∷ word ∷ []) = parsed_one_word block kind word
parsed_at block (kind ∷ first ∷ second ∷ more) = ordered block (parsed_command (kind ∷ first ∷ second ∷ more))

abbrev pub parsed_block : Option ℕ → List (List ℕ) → ParsedLine
parsed_block None words = Wrong
parsed_block (Some block) words = parsed_at block words

-- a block has 32 bits
unfoldable pub parsed_words : List (List ℕ) → ParsedLine
parsed_words [] = Blank
parsed_words (word ∷ words) = if bytes_eq word (codes "map") then parsed_map words else parsed_block (number_to (2 ^ 32 - 1) word) words

-- a comment: its very first byte is a number sign
abbrev pub is_comment : List ℕ → Bool
is_comment [] = false
is_comment (byte ∷ bytes) = byte == 35

unfoldable pub parsed : List ℕ → ParsedLine
parsed line = if is_comment line then Blank else parsed_words (words_of line)

-- what the lines of a text say
abbrev pub parsed_lines : List (List ℕ) → List ParsedLine
parsed_lines lines = map parsed lines
