-- A note as plain data, and what its six operators do in each of its blocks.
use Rattle.std.specs.Prelude.{ℕ, zero, suc, ◌+◌, ◌-◌, ◌*◌, ◌/◌, ◌%◌, ◌^◌, ◌==◌, Bool, if◌then◌else◌, List, [], ◌∷◌, ◌++◌, length, slice_index}
use Rattle.std.specs.Prelude.{slice_index_or, Option, None, ℤ, pos, ◌+ℤ◌, ◌-ℤ◌, ◌*ℤ◌, unsigned_abs}
use Rattle.dx_tables.specs.Numbers.{wrap}
use Rattle.dx_tables.specs.Powers.{frequency}
use Rattle.voice_record.specs.declared.parameter.TheConstants.{ALGORITHM, FEEDBACK, OPERATOR_FIELDS, PITCH_LEVELS, PITCH_RATES, TRANSPOSE}
use Rattle.voice_record.specs.declared.operator_parameter.TheConstants.{LEVELS, RATES}
use Rattle.block_rates.specs.Stages.{released_after}
use Rattle.block_rates.specs.Levels.{EnvelopeSettings, envelope_level}
use Rattle.block_rates.specs.Pitches.{PitchEnvelopeSettings, pitch_envelope_level}
use Rattle.key_scale.specs.Levels.{output_level, rate_scale_of}
use Rattle.key_scale.specs.Pitch.{pitch_of_operator}
use Rattle.operator_kernel.specs.declared.OpBlock.{OpBlock}
use Rattle.operator_kernel.specs.Operator.{FeedbackState}
use Rattle.algorithm_bus.specs.Audible.{muted}
use Rattle.algorithm_bus.specs.Signals.{BlockInput, feedback_state_left, note_output}
use Rattle.algorithm_bus.specs.Buses.{op_of}
use Rattle.note_voice.specs.Modulation.{Modulation, pitch_modulation, attenuation_of, gain_of}

-- a note as plain data: the 155 parameters of its voice, which operators are switched on, its key and velocity, after how many of its blocks
-- the key was released, and what moved it in each block so far
pub record NoteData : Type 0 where
  pub voice : List ℕ
  pub switch : ℕ
  pub key : ℕ
  pub velocity : ℕ
  pub off : Option ℕ
  pub past : List Modulation

abbrev pub begun : List ℕ → ℕ → ℕ → ℕ → NoteData
begun voice switch key velocity = record { voice = voice; switch = switch; key = key; velocity = velocity; off = None; past = [] }

-- the same note with another past and release
abbrev pub continued : NoteData → Option ℕ → List Modulation → NoteData
continued n off past = record { voice = n.voice; switch = n.switch; key = n.key; velocity = n.velocity; off = off; past = past }

-- the note with its key released
abbrev pub note_released : NoteData → NoteData
note_released n = continued n (released_after (length n.past) n.off) n.past

-- the note one block later
abbrev pub after_block : NoteData → Modulation → NoteData
after_block n m = continued n n.off (n.past ++ m ∷ [])

-- what moved the note in block i
abbrev pub modulation_in : List Modulation → ℕ → Modulation
modulation_in past i = slice_index_or past i (record { lfo = pos 0; lfo_depth = 0; bend = 0; wheel = 0 })

-- the note that is played, by key and transpose
abbrev pub played_note : List ℕ → ℕ → ℤ
played_note voice key = pos key +ℤ pos (slice_index voice TRANSPOSE) -ℤ pos 24

-- four parameters of a voice, from this one on
abbrev pub four_from : List ℕ → ℕ → List ℕ
four_from voice first = slice_index voice first ∷ slice_index voice (first + 1) ∷ slice_index voice (first + 2) ∷ slice_index voice (first + 3) ∷ []

-- the envelope of an operator
abbrev pub settings_at : List ℕ → ℕ → ℤ → ℕ → EnvelopeSettings
settings_at voice operator note velocity = record {
  rates = four_from voice (OPERATOR_FIELDS * (6 - operator) + RATES);
  levels = four_from voice (OPERATOR_FIELDS * (6 - operator) + LEVELS);
  out = unsigned_abs (output_level voice operator note velocity);
  rate_scale = rate_scale_of voice operator note;
}

unfoldable pub envelope_settings : NoteData → ℕ → EnvelopeSettings
envelope_settings n operator = settings_at n.voice operator (played_note n.voice n.key) n.velocity

-- the pitch envelope of a voice
unfoldable pub pitch_settings : List ℕ → PitchEnvelopeSettings
pitch_settings voice = record { rates = four_from voice PITCH_RATES; levels = four_from voice PITCH_LEVELS }

-- what is added to the pitch of all operators in block i
unfoldable pub pitch_shift_in : NoteData → ℕ → ℤ
pitch_shift_in n i = pitch_modulation n.voice (modulation_in n.past i) (pitch_envelope_level (pitch_settings n.voice) (i + 1) n.off)

-- the phase increment of an operator in block i
unfoldable pub increment_in : NoteData → ℕ → ℕ → ℤ
increment_in n operator i = frequency (pitch_of_operator n.voice operator (played_note n.voice n.key) +ℤ pitch_shift_in n i)

-- the sum of the phase increments of the first i blocks
unfoldable pub increments_before : NoteData → ℕ → ℕ → ℤ
increments_before n operator zero = pos 0
increments_before n operator (suc i) = increments_before n operator i +ℤ increment_in n operator i

-- how far the level of an operator is attenuated in block i
unfoldable pub attenuation_in : NoteData → ℕ → ℕ → ℤ
attenuation_in n operator i = attenuation_of n.voice operator (modulation_in n.past i)

-- the gain of an operator at the end of block i
unfoldable pub gain_after : NoteData → ℕ → ℕ → ℤ
gain_after n operator i = gain_of (pos (envelope_level (envelope_settings n operator) (i + 1) n.off)) (attenuation_in n operator i)

-- the gain where block i begins, which is 0 in the first one
unfoldable pub gain_before : NoteData → ℕ → ℕ → ℤ
gain_before n operator zero = pos 0
gain_before n operator (suc i) = gain_after n operator i

-- an operator in block i
abbrev pub operator_in : NoteData → ℕ → ℕ → OpBlock
operator_in n operator i = record {
  phase = wrap (pos 64 *ℤ increments_before n operator i);
  freq = increment_in n operator i;
  g1 = gain_before n operator i;
  g2 = gain_after n operator i;
}

-- whether an operator is switched on: bit 5 is operator 1, and bit 0 is operator 6
abbrev pub is_on : ℕ → ℕ → Bool
is_on switch operator = switch / 2 ^ (6 - operator) % 2 == 1

-- an operator in block i as it is heard
unfoldable pub audible_in : NoteData → ℕ → ℕ → OpBlock
audible_in n operator i = if is_on n.switch operator then operator_in n operator i else muted (operator_in n operator i)

-- all six of them, operator 1 first
abbrev pub operators_in : NoteData → ℕ → List OpBlock
operators_in n i = audible_in n 1 i ∷ audible_in n 2 i ∷ audible_in n 3 i ∷ audible_in n 4 i ∷ audible_in n 5 i ∷ audible_in n 6 i ∷ []

-- what block i is made from, where the operator with feedback left these two samples
abbrev pub block_input_in : NoteData → ℕ → FeedbackState → BlockInput
block_input_in n i feedback_state = record {
  algorithm = slice_index n.voice ALGORITHM;
  feedback = slice_index n.voice FEEDBACK;
  op = op_of (operators_in n i);
  feedback_state = feedback_state;
}

-- the last two samples of the operator with feedback before block i
unfoldable pub feedback_state_before : NoteData → ℕ → FeedbackState
feedback_state_before n zero = record { before_last = pos 0; last = pos 0 }
feedback_state_before n (suc i) = feedback_state_left (block_input_in n i (feedback_state_before n i))

-- what block i of a note is made from
abbrev pub note_input : NoteData → ℕ → BlockInput
note_input n i = block_input_in n i (feedback_state_before n i)

-- sample j of block i
unfoldable pub note_sample : NoteData → ℕ → ℕ → ℤ
note_sample n i j = note_output (note_input n i) j
