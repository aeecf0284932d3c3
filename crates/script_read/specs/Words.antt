-- The lines of a text, their words, and the numbers and bytes that words write.
use Rattle.std.specs.Prelude.{ℕ, ◌-◌, ◌==◌, ◌&&◌, Bool, nat_lt, nat_le, List, [], ◌∷◌, filter, length, take, slice_index, Option}
use Rattle.std.specs.Prelude.{Some, None, if◌then◌else◌}
use Rattle.std.specs.List.{join_with_byte}
use Rattle.std.specs.Str.{all_ascii_digits}
use Rattle.std.specs.Str.Parse.{digits_value}
use Rattle.std.specs.Result.{result_ok}
use Rattle.hex.specs.Hex.{decode_of}
use Rattle.plain_text.specs.Split.{split}
use Rattle.plain_text.specs.Words.{is_nonempty}

-- a line without a carriage return at its end
abbrev pub without_return : List ℕ → List ℕ
without_return line = if slice_index line (length line - 1) == 13 then take (length line - 1) line else line

-- of the parts that line feeds separate, the lines: one carriage return directly before a line feed is no part of its line
abbrev pub ended : List (List ℕ) → List (List ℕ)
ended [] = []
ended (last ∷ []) = last ∷ []
ended (line ∷ next ∷ more) = without_return line ∷ ended (next ∷ more)

-- the lines of a text; after a last line feed there is an empty one
unfoldable pub lines_of : List ℕ → List (List ℕ)
lines_of text = ended (split 10 text)

-- the words of a line, which one or more spaces part; spaces at its ends don't count
unfoldable pub words_of : List ℕ → List (List ℕ)
words_of line = filter is_nonempty (split 32 line)

-- of the parts of a line, those after its first word
abbrev pub after_word : List (List ℕ) → List (List ℕ)
after_word [] = []
after_word (part ∷ more) = if is_nonempty part then more else after_word more

-- what stands after the first word of a line and one space
unfoldable pub text_after : List ℕ → List ℕ
text_after line = join_with_byte 32 (after_word (split 32 line))

-- 1 to 10 digits, zeros in front among them
abbrev pub is_numeral : List ℕ → Bool
is_numeral word = all_ascii_digits word && (nat_lt 0 (length word) && nat_le (length word) 10)

-- the number that a word writes, where it is at most this
unfoldable pub number_to : ℕ → List ℕ → Option ℕ
number_to most word = if is_numeral word && nat_le (digits_value 10 word) most then Some (digits_value 10 word) else None

-- the bytes that pairs of hex digits of either case write
unfoldable pub hex_bytes : List ℕ → Option (List ℕ)
hex_bytes word = result_ok (decode_of word)
