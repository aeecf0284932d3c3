-- The words of a command's text, and the command that words say.
use Rattle.std.specs.Prelude.{ℕ, ◌≡◌, ◌≢◌, List, [], ◌∷◌, codes, decimal, Option, Some, None, option_map, option_and_then, bytes_eq, if◌then◌else◌}
use Rattle.std.specs.List.{flat_map}
use Rattle.hex.specs.Hex.{encode_lower}
use Rattle.plain_text.specs.Number.{number}
use Rattle.command_set.specs.Command.{CommandData, StartsNote, EndsNote, Bends, Controls, PicksProgram, SetsParameter, StoresVoice}
use Rattle.command_set.specs.Command.{LoadsVoice, LoadsCartridge, IsInRange}
use Rattle.command_set.specs.Text.{packed}

-- the words of a command's text
abbrev pub words : CommandData → List (List ℕ)
words (StartsNote channel key velocity) = codes "on" ∷ decimal channel ∷ decimal key ∷ decimal velocity ∷ []
words (EndsNote channel key) = codes "off" ∷ decimal channel ∷ decimal key ∷ []
words (Bends channel value) = codes "bend" ∷ decimal channel ∷ decimal value ∷ []
words (Controls channel number value) = codes "control" ∷ decimal channel ∷ decimal number ∷ decimal value ∷ []
words (PicksProgram channel number) = codes "program" ∷ decimal channel ∷ decimal number ∷ []
words (SetsParameter number value) = codes "param" ∷ decimal number ∷ decimal value ∷ []
words (StoresVoice slot) = codes "store" ∷ decimal slot ∷ []
words (LoadsVoice voice) = codes "voice" ∷ encode_lower voice ∷ []
words (LoadsCartridge voices) = codes "cartridge" ∷ encode_lower (flat_map packed voices) ∷ []

-- the words of a command in range
abbrev pub AreWordsOf : List (List ℕ) → CommandData → Type 0
AreWordsOf found command = IsInRange command × (words command ≡ found)

-- the words of no command in range
abbrev pub AreWordsOfNone : List (List ℕ) → Type 0
AreWordsOfNone found = (d : CommandData) → IsInRange d → words d ≢ found

-- the words of some command in range
abbrev pub AreWordsOfSome : List (List ℕ) → Type 0
AreWordsOfSome found = (d : CommandData) × AreWordsOf found d

-- `store` and one word
unfoldable pub store_of : List ℕ → List ℕ → Option CommandData
store_of kind word = if bytes_eq kind (codes "store") then option_map StoresVoice (number 0 255 word) else None

-- a kind and two bytes
unfoldable pub two_bytes_of : List ℕ → ℕ → ℕ → Option CommandData
two_bytes_of kind first second =
    if bytes_eq kind (codes "off") then Some (EndsNote first second)
    else if bytes_eq kind (codes "program") then Some (PicksProgram first second)
    else if bytes_eq kind (codes "param") then Some (SetsParameter first second)
    else None

-- a kind and two words
unfoldable pub two_of : List ℕ → List ℕ → List ℕ → Option CommandData
two_of kind first second =
    if bytes_eq kind (codes "bend")
    then option_and_then (λ channel. option_map (Bends channel) (number 0 16383 second)) (number 0 255 first)
    else option_and_then (λ a. option_and_then (two_bytes_of kind a) (number 0 255 second)) (number 0 255 first)

-- a kind and three bytes
unfoldable pub three_bytes_of : List ℕ → ℕ → ℕ → ℕ → Option CommandData
three_bytes_of kind first second third =
    if bytes_eq kind (codes "on") then Some (StartsNote first second third)
    else if bytes_eq kind (codes "control") then Some (Controls first second third)
    else None

-- a kind and three words
unfoldable pub three_of : List ℕ → List ℕ → List ℕ → List ℕ → Option CommandData
three_of kind first second third =
    option_and_then
    (λ a. option_and_then (λ b. option_and_then (three_bytes_of kind a b) (number 0 255 third)) (number 0 255 second))
    (number 0 255 first)

-- the command of numbers that the words write, whether it is in range or not
unfoldable pub numbers_of : List (List ℕ) → Option CommandData
numbers_of (kind ∷ word ∷ []) = store_of kind word
numbers_of (kind ∷ first ∷ second ∷ []) = two_of kind first second
numbers_of (kind ∷ first ∷ second ∷ third ∷ []) = three_of kind first second third
numbers_of other = None
