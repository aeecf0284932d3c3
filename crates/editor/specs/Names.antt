-- The name of a voice: its last ten numbers, from number 145 on.
use Rattle.std.specs.Prelude.{ℕ, List, ◌++◌, take, nat_lt, position, Option}
use Rattle.voice_record.specs.declared.parameter.TheConstants.{NAME}

-- the voice with another name
abbrev pub renamed : List ℕ → List ℕ → List ℕ
renamed voice name = take NAME voice ++ name

-- the place of the first byte that is above 127
abbrev pub first_high : List ℕ → Option ℕ
first_high name = position (λ byte. nat_lt 127 byte) name
