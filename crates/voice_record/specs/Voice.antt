-- A voice: a list of 155 parameters, each at most its greatest value.
use Rattle.std.specs.Prelude.{ℕ, ◌≡◌, ◌-◌, ◌%◌, ◌<◌, ◌≤◌, min, codes, List, [], ◌∷◌, ◌++◌, length, nat_lt, slice_index, if◌then◌else◌}

-- the greatest values of the 21 parameters of an operator
abbrev pub operator_greatest : List ℕ
operator_greatest =
    99 ∷ 99 ∷ 99 ∷ 99  -- rates 1 to 4
    ∷ 99 ∷ 99 ∷ 99 ∷ 99  -- levels 1 to 4
    ∷ 99  -- break point
    ∷ 99 ∷ 99  -- left depth, right depth
    ∷ 3 ∷ 3  -- left curve, right curve
    ∷ 7  -- rate scaling
    ∷ 3  -- amplitude modulation sensitivity
    ∷ 7  -- key velocity sensitivity
    ∷ 99  -- output level
    ∷ 1  -- mode
    ∷ 31  -- coarse
    ∷ 99  -- fine
    ∷ 14  -- detune
    ∷ []

-- the greatest values of the parameters from 126 on; the last, number 155, is the operator switch
abbrev pub common_greatest : List ℕ
common_greatest =
    99 ∷ 99 ∷ 99 ∷ 99  -- pitch rates 1 to 4
    ∷ 99 ∷ 99 ∷ 99 ∷ 99  -- pitch levels 1 to 4
    ∷ 31  -- algorithm
    ∷ 7  -- feedback
    ∷ 1  -- oscillator key sync
    ∷ 99 ∷ 99 ∷ 99 ∷ 99  -- LFO speed, delay, pitch depth, amplitude depth
    ∷ 1  -- LFO sync
    ∷ 5  -- LFO wave
    ∷ 7  -- pitch modulation sensitivity
    ∷ 48  -- transpose
    ∷ 127 ∷ 127 ∷ 127 ∷ 127 ∷ 127 ∷ 127 ∷ 127 ∷ 127 ∷ 127 ∷ 127  -- name
    ∷ 63  -- operator switch
    ∷ []

-- the greatest value of a parameter from 0 to 155; the six operators come first, operator 6 before operator 1
unfoldable pub greatest_value : ℕ → ℕ
greatest_value number =
    if nat_lt number 126 then slice_index operator_greatest (number % 21)
    else slice_index common_greatest (number - 126)

-- 155 parameters, each at most its greatest value
pub record IsVoice (fields : List ℕ) : Type 0 where
  pub count : length fields ≡ 155
  pub within : (number : ℕ) → number < 155 → slice_index fields number ≤ greatest_value number

-- each parameter is the lesser of the byte modulo 128 and its greatest value
pub record IsClamped (bytes fields : List ℕ) : Type 0 where
  pub count : length fields ≡ 155
  pub clamped :
      (number : ℕ) → number < 155 → slice_index fields number ≡ min (slice_index bytes number % 128) (greatest_value number)

-- an operator of the opening voice, by its output level
abbrev pub opening_operator : ℕ → List ℕ
opening_operator level =
    99 ∷ 99 ∷ 99 ∷ 99 ∷ 99 ∷ 99 ∷ 99 ∷ 0 ∷ 39 ∷ 0 ∷ 0 ∷ 0 ∷ 0 ∷ 0 ∷ 0 ∷ 0 ∷ level ∷ 0 ∷ 1 ∷ 0 ∷ 7 ∷ []

-- what the opening voice has after its operators; the name is INIT VOICE
abbrev pub opening_common : List ℕ
opening_common =
    99 ∷ 99 ∷ 99 ∷ 99 ∷ 50 ∷ 50 ∷ 50 ∷ 50 ∷ 0 ∷ 0 ∷ 1 ∷ 35 ∷ 0 ∷ 0 ∷ 0 ∷ 1 ∷ 0 ∷ 3 ∷ 24 ∷ codes "INIT VOICE"

-- the voice before any other is chosen: a plain tone of operator 1
unfoldable pub opening_voice : List ℕ
opening_voice =
    opening_operator 0
    ++ (opening_operator 0
    ++ (opening_operator 0
    ++ (opening_operator 0
    ++ (opening_operator 0
    ++ (opening_operator 99
    ++ opening_common)))))
