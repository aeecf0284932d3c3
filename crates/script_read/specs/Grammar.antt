-- The commands that the words of a line say. Each number is in its range.
use Rattle.std.specs.Prelude.{ℕ, nat_le, List, [], ◌∷◌, codes, bytes_eq, Option, Some, None, option_map, option_and_then, Result}
use Rattle.std.specs.Prelude.{Ok, Err, if◌then◌else◌}
use Rattle.std.specs.List.{flat_map}
use Rattle.hex.specs.Hex.{decode_of, encode_lower}
use Rattle.hex.specs.declared.error.FromHexError.{FromHexError}
use Rattle.voice_record.specs.Voice.{greatest_value}
use Rattle.cartridge.specs.Cartridge.{voices_of}
use Rattle.command_set.specs.Command.{CommandData, StartsNote, EndsNote, Bends, Controls, PicksProgram, SetsParameter, StoresVoice}
use Rattle.command_set.specs.Command.{LoadsVoice, LoadsCartridge}
use Rattle.command_set.specs.Text.{packed}
use Rattle.command_set.specs.Message.{acts, clamped_voice}
use Rattle.script_read.specs.Words.{number_to}

-- the bytes of a word of hex digits in lower case
abbrev pub if_lower : List ℕ → Result (List ℕ) FromHexError → Option (List ℕ)
if_lower word (Ok bytes) = if bytes_eq (encode_lower bytes) word then Some bytes else None
if_lower word (Err e) = None

abbrev pub lower_bytes : List ℕ → Option (List ℕ)
lower_bytes word = if_lower word (decode_of word)

-- a voice: the values of 155 parameters, none above its greatest
abbrev pub if_voice : List ℕ → Option CommandData
if_voice bytes = if bytes_eq (clamped_voice bytes) bytes then Some (LoadsVoice bytes) else None

unfoldable pub parsed_voice : List ℕ → Option CommandData
parsed_voice word = option_and_then if_voice (lower_bytes word)

-- a cartridge: the packed bytes of 32 voices, which are those of no other
abbrev pub if_cartridge : List ℕ → Option CommandData
if_cartridge bytes = if bytes_eq (flat_map packed (voices_of bytes)) bytes then Some (LoadsCartridge (voices_of bytes)) else None

unfoldable pub parsed_cartridge : List ℕ → Option CommandData
parsed_cartridge word = option_and_then if_cartridge (lower_bytes word)

-- a kind and one word
unfoldable pub parsed_one : List ℕ → List ℕ → Option CommandData
parsed_one kind word =
    if bytes_eq kind (codes "store") then option_map StoresVoice (number_to 31 word)
    else if bytes_eq kind (codes "voice") then parsed_voice word
    else if bytes_eq kind (codes "cartridge") then parsed_cartridge word
    else None

-- two numbers, where both are there
abbrev pub both : (ℕ → ℕ → CommandData) → Option ℕ → Option ℕ → Option CommandData
both f (Some first) (Some second) = Some (f first second)
both f (Some first) None = None
both f None second = None

-- a parameter of the voice or the operator switch, and a value up to its greatest
abbrev pub parsed_param : List ℕ → Option ℕ → Option CommandData
parsed_param value None = None
parsed_param value (Some number) = option_map (SetsParameter number) (number_to (greatest_value number) value)

-- a kind and two words
unfoldable pub parsed_two : List ℕ → List ℕ → List ℕ → Option CommandData
parsed_two kind first second =
    if bytes_eq kind (codes "off") then both EndsNote (number_to 15 first) (number_to 127 second)
    else if bytes_eq kind (codes "bend") then both Bends (number_to 15 first) (number_to 16383 second)
    else if bytes_eq kind (codes "program") then both PicksProgram (number_to 15 first) (number_to 127 second)
    else if bytes_eq kind (codes "param") then parsed_param second (number_to 155 first)
    else None

-- a note-on, whose velocity is not 0
abbrev pub parsed_on : Option ℕ → Option ℕ → Option ℕ → Option CommandData
parsed_on (Some channel) (Some key) (Some velocity) = if nat_le 1 velocity then Some (StartsNote channel key velocity) else None
parsed_on (Some channel) (Some key) None = None
parsed_on (Some channel) None velocity = None
parsed_on None key velocity = None

-- a control that acts
abbrev pub parsed_control : Option ℕ → Option ℕ → Option ℕ → Option CommandData
parsed_control (Some channel) (Some number) (Some value) = if acts number then Some (Controls channel number value) else None
parsed_control (Some channel) (Some number) None = None
parsed_control (Some channel) None value = None
parsed_control None number value = None

-- a kind and three words
unfoldable pub parsed_three : List ℕ → List ℕ → List ℕ → List ℕ → Option CommandData
parsed_three kind first second third =
    if bytes_eq kind (codes "on") then parsed_on (number_to 15 first) (number_to 127 second) (number_to 127 third)
    else if bytes_eq kind (codes "control") then parsed_control (number_to 15 first) (number_to 127 second) (number_to 127 third)
    else None

-- the command that the words say
unfoldable pub parsed_command : List (List ℕ) → Option CommandData
parsed_command (kind ∷ word ∷ []) = parsed_one kind word
parsed_command (kind ∷ first ∷ second ∷ []) = parsed_two kind first second
parsed_command (kind ∷ first ∷ second ∷ third ∷ []) = parsed_three kind first second third
parsed_command words = None
