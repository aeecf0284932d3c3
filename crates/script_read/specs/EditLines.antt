-- The lines of an `edit 1` script, parsed.
use Rattle.std.specs.Prelude.{ℕ, ◌^◌, ◌-◌, ◌&&◌, Bool, nat_le, nat_lt, List, [], ◌∷◌, ◌++◌, codes, bytes_eq, length, map}
use Rattle.std.specs.Prelude.{replicate, Option, Some, None, option_map, option_and_then, if◌then◌else◌}
use Rattle.std.specs.List.{list_all}
use Rattle.command_set.specs.Command.{CommandData, StartsNote, EndsNote, Bends, Controls, PicksProgram, SetsParameter, StoresVoice}
use Rattle.command_set.specs.Command.{LoadsVoice, LoadsCartridge}
use Rattle.script_read.specs.Words.{number_to, text_after, words_of}
use Rattle.script_read.specs.Grammar.{parsed_voice}
use Rattle.script_read.specs.Lines.{is_comment}

-- a request to an editor: a parameter of the voice set to a value; an act undone, or done again; another name; another voice; or the voice
-- put into a slot
pub data EditRequestData : Type 0 where
  Sets : ℕ → ℕ → EditRequestData
  Undoes : EditRequestData
  Redoes : EditRequestData
  Renames : List ℕ → EditRequestData
  Loads : List ℕ → EditRequestData
  Puts : ℕ → EditRequestData

-- a parsed line: nothing, it is passed over; or a request at a block; or it isn't of the grammar
pub data ParsedEdit : Type 0 where
  Passed : ParsedEdit
  Requests : ℕ → EditRequestData → ParsedEdit
  Bad : ParsedEdit

-- a byte that a name may have
abbrev pub is_name_byte : ℕ → Bool
is_name_byte byte = nat_le 32 byte && nat_le byte 126

-- a name: 1 to 10 bytes, filled with spaces to ten
unfoldable pub parsed_name : List ℕ → Option (List ℕ)
parsed_name text =
    if (nat_lt 0 (length text) && nat_le (length text) 10) && list_all is_name_byte text
    then Some (text ++ replicate (10 - length text) 32)
    else None

-- a parameter of the voice, from 0 to 154, and a value, which may be above its greatest
abbrev pub parsed_set : Option ℕ → Option ℕ → Option EditRequestData
parsed_set (Some number) (Some value) = Some (Sets number value)
parsed_set (Some number) None = None
parsed_set None value = None

-- the voice of a command that loads one
abbrev pub voice_taken : CommandData → Option (List ℕ)
voice_taken (StartsNote channel key velocity) = None
voice_taken (EndsNote channel key) = None
voice_taken (Bends channel value) = None
voice_taken (Controls channel number value) = None
voice_taken (PicksProgram channel number) = None
voice_taken (SetsParameter number value) = None
voice_taken (StoresVoice slot) = None
voice_taken (LoadsVoice voice) = Some voice
voice_taken (LoadsCartridge voices) = None

-- a kind alone
abbrev pub request_alone : List ℕ → Option EditRequestData
request_alone kind =
    if bytes_eq kind (codes "undo") then Some Undoes
    else if bytes_eq kind (codes "redo") then Some Redoes
    else None

-- a kind and one word; a voice is written as in a command
abbrev pub request_of_one : List ℕ → List ℕ → Option EditRequestData
request_of_one kind word =
    if bytes_eq kind (codes "voice") then option_map Loads (option_and_then voice_taken (parsed_voice word))
    else if bytes_eq kind (codes "store") then option_map Puts (number_to 31 word)
    else None

-- a kind and two words
abbrev pub request_of_two : List ℕ → List ℕ → List ℕ → Option EditRequestData
request_of_two kind first second =
    if bytes_eq kind (codes "set") then parsed_set (number_to 154 first) (number_to (2 ^ 32 - 1) second) else None

-- a kind and the words after it
abbrev pub request_of_words : List ℕ → List (List ℕ) → Option EditRequestData
request_of_words kind [] = request_alone kind
request_of_words kind (word ∷ []) = request_of_one kind word
request_of_words kind (first ∷ second ∷ []) = request_of_two kind first second
request_of_words kind (first ∷ second ∷ third ∷ more) = None

-- the words after a block; a name is all of the text after its kind and one space
abbrev pub parsed_request : List ℕ → List (List ℕ) → Option EditRequestData
parsed_request text [] = None
parsed_request text (kind ∷ words) = if bytes_eq kind (codes "name") then option_map Renames (parsed_name text) else request_of_words kind words

abbrev pub request_at : ℕ → Option EditRequestData → ParsedEdit
request_at block None = Bad
request_at block (Some what) = Requests block what

-- what stands after a block
abbrev pub edit_at : Option ℕ → List ℕ → ParsedEdit
edit_at None after = Bad
edit_at (Some block) after = request_at block (parsed_request (text_after after) (words_of after))

-- the words of a line, and what stands after the first one
unfoldable pub parsed_edit_words : List (List ℕ) → List ℕ → ParsedEdit
parsed_edit_words [] after = Passed
parsed_edit_words (word ∷ words) after = edit_at (number_to (2 ^ 32 - 1) word) after

unfoldable pub parsed_edit : List ℕ → ParsedEdit
parsed_edit line = if is_comment line then Passed else parsed_edit_words (words_of line) (text_after line)

-- what the lines of a script say
abbrev pub parsed_edits : List (List ℕ) → List ParsedEdit
parsed_edits lines = map parsed_edit lines
