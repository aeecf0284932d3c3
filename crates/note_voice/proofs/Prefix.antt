-- What a note does in a block depends on what moved it up to that block, and on nothing later.
use Rattle.std.proofs.Common.{ℕ, zero, suc, ◌+ℤ◌, ◌+◌, ◌<◌, ◌≤◌, ◌≡◌, ◌∙◌, ap, refl, List, [], ◌∷◌, ◌++◌, length, get_or, Option, None, Some, leb, true, le-leb}
use Rattle.std.proofs.Common.{arith}
use Rattle.std.proofs.lemmas.List.{get_or_append_left}
use Rattle.dx_tables.specs.Powers.{frequency}
use Rattle.block_rates.specs.Levels.{EnvelopeSettings, envelope_level}
use Rattle.block_rates.specs.Pitches.{PitchEnvelopeSettings, pitch_envelope_level}
use Rattle.block_rates.specs.Stages.{released_after, four_stages}
use Rattle.key_scale.specs.Pitch.{pitch_of_operator}
use Rattle.operator_kernel.specs.declared.OpBlock.{OpBlock}
use Rattle.operator_kernel.specs.Operator.{FeedbackState}
use Rattle.algorithm_bus.specs.Signals.{BlockInput, feedback_state_left}
use Rattle.algorithm_bus.specs.Buses.{op_of}
use Rattle.note_voice.specs.Modulation.{Modulation}
use Rattle.note_voice.specs.Note.{NoteData, continued, modulation_in, played_note, envelope_settings, pitch_settings, pitch_shift_in, increment_in}
use Rattle.note_voice.specs.Note.{increments_before, attenuation_in, gain_after, gain_before, audible_in, operators_in, block_input_in, feedback_state_before}

-- a note with this past and release has the same first k blocks
pub record AgreesUpTo (k : ℕ) (n : NoteData) (off : Option ℕ) (past : List Modulation) : Type 0 where
  pub entry : (i : ℕ) → i < k → modulation_in past i ≡ modulation_in n.past i
  pub level : (s : EnvelopeSettings) (i : ℕ) → i < k → envelope_level s (i + 1) off ≡ envelope_level s (i + 1) n.off
  pub pitch : (s : PitchEnvelopeSettings) (i : ℕ) → i < k → pitch_envelope_level s (i + 1) off ≡ pitch_envelope_level s (i + 1) n.off

-- a release leaves the levels up to it as they are
pub level_at_release : (s : EnvelopeSettings) (k j : ℕ) (off : Option ℕ) → j ≤ k → envelope_level s j (released_after k off) ≡ envelope_level s j off
unfolding envelope_level four_stages
level_at_release s k j None le = let e : leb j k ≡ true = le-leb j k le in rw e
level_at_release s k j (Some off) le = refl

pub pitch_at_release : (s : PitchEnvelopeSettings) (k j : ℕ) (off : Option ℕ) → j ≤ k
    → pitch_envelope_level s j (released_after k off) ≡ pitch_envelope_level s j off
unfolding pitch_envelope_level four_stages
pitch_at_release s k j None le = let e : leb j k ≡ true = le-leb j k le in rw e
pitch_at_release s k j (Some off) le = refl

pub agrees_released : (n : NoteData) → AgreesUpTo (length n.past) n (released_after (length n.past) n.off) n.past
agrees_released n = record {
  entry = λ i lt. refl;
  level = λ s i lt. level_at_release s (length n.past) (i + 1) n.off (omega arith);
  pitch = λ s i lt. pitch_at_release s (length n.past) (i + 1) n.off (omega arith);
}

pub agrees_after_block : (n : NoteData) (m : Modulation) → AgreesUpTo (length n.past) n n.off (n.past ++ m ∷ [])
agrees_after_block n m = record {
  entry = λ i lt. rw get_or_append_left refl;
  level = λ s i lt. refl;
  pitch = λ s i lt. refl;
}

shift_same : (k : ℕ) (n : NoteData) (off : Option ℕ) (past : List Modulation) (i : ℕ) → AgreesUpTo k n off past → i < k
    → pitch_shift_in (continued n off past) i ≡ pitch_shift_in n i
unfolding pitch_shift_in
shift_same k n off past i a lt = rw (a.entry i lt, a.pitch (pitch_settings n.voice) i lt) refl

increment_same : (k : ℕ) (n : NoteData) (off : Option ℕ) (past : List Modulation) (operator i : ℕ) → AgreesUpTo k n off past → i < k
    → increment_in (continued n off past) operator i ≡ increment_in n operator i
unfolding increment_in
increment_same k n off past operator i a lt = ap (λ z. frequency (pitch_of_operator n.voice operator (played_note n.voice n.key) +ℤ z))
    (shift_same k n off past i a lt)

pub increments_same : (k : ℕ) (n : NoteData) (off : Option ℕ) (past : List Modulation) (operator i : ℕ) → AgreesUpTo k n off past → i ≤ k
    → increments_before (continued n off past) operator i ≡ increments_before n operator i
unfolding increments_before
increments_same k n off past operator zero a le = refl
increments_same k n off past operator (suc i) a le = rw (
  increments_same k n off past operator i a (omega arith),
  increment_same k n off past operator i a
      (omega arith),
) refl

attenuation_same : (k : ℕ) (n : NoteData) (off : Option ℕ) (past : List Modulation) (operator i : ℕ) → AgreesUpTo k n off past → i < k
    → attenuation_in (continued n off past) operator i ≡ attenuation_in n operator i
unfolding attenuation_in
attenuation_same k n off past operator i a lt = rw (a.entry i lt) refl

settings_same : (n : NoteData) (off : Option ℕ) (past : List Modulation) (operator : ℕ)
    → envelope_settings (continued n off past) operator ≡ envelope_settings n operator
unfolding envelope_settings
settings_same n off past operator = refl

gain_after_same : (k : ℕ) (n : NoteData) (off : Option ℕ) (past : List Modulation) (operator i : ℕ) → AgreesUpTo k n off past → i < k
    → gain_after (continued n off past) operator i ≡ gain_after n operator i
unfolding gain_after
gain_after_same k n off past operator i a lt = rw (
  settings_same n off past operator,
  a.level (envelope_settings n operator) i lt,
  attenuation_same k n off past
      operator i a lt,
) refl

pub gain_before_same : (k : ℕ) (n : NoteData) (off : Option ℕ) (past : List Modulation) (operator i : ℕ) → AgreesUpTo k n off past → i ≤ k
    → gain_before (continued n off past) operator i ≡ gain_before n operator i
unfolding gain_before
gain_before_same k n off past operator zero a le = refl
gain_before_same k n off past operator (suc i) a le = gain_after_same k n off past operator i a (omega arith)

audible_in_same : (k : ℕ) (n : NoteData) (off : Option ℕ) (past : List Modulation) (operator i : ℕ) → AgreesUpTo k n off past → i < k
    → audible_in (continued n off past) operator i ≡ audible_in n operator i
unfolding audible_in
audible_in_same k n off past operator i a lt = rw (
  increments_same k n off past operator i a (omega arith),
  increment_same k n off past operator i a lt,
  gain_before_same k n off past operator i a (omega arith),
  gain_after_same k n off past operator i a lt,
) refl

operators_same : (k : ℕ) (n : NoteData) (off : Option ℕ) (past : List Modulation) (i : ℕ) → AgreesUpTo k n off past → i < k
    → operators_in (continued n off past) i ≡ operators_in n i
operators_same k n off past i a lt =
    let e : (operator : ℕ) → audible_in (continued n off past) operator i ≡ audible_in n operator i = λ operator.
    audible_in_same k n off past operator i a lt in
    rw (e 1, e 2, e 3, e 4, e 5, e 6) refl

abbrev block_input_of_ops : NoteData → List OpBlock → FeedbackState → BlockInput
block_input_of_ops n ops feedback_state = record {
  algorithm = get_or n.voice 134 0;
  feedback = get_or n.voice 135 0;
  op = op_of ops;
  feedback_state =
      feedback_state;
}

block_input_same : (k : ℕ) (n : NoteData) (off : Option ℕ) (past : List Modulation) (i : ℕ) (feedback_state : FeedbackState) → AgreesUpTo k n off past → i < k
    → block_input_in (continued n off past) i feedback_state ≡ block_input_in n i feedback_state
block_input_same k n off past i feedback_state a lt = ap (λ ops. block_input_of_ops n ops feedback_state) (operators_same k n off past i a lt)

pub state_same : (k : ℕ) (n : NoteData) (off : Option ℕ) (past : List Modulation) (i : ℕ) → AgreesUpTo k n off past → i ≤ k
    → feedback_state_before (continued n off past) i ≡ feedback_state_before n i
unfolding feedback_state_before
state_same k n off past zero a le = refl
state_same k n off past (suc i) a le =
    ap feedback_state_left (block_input_same k n off past i (feedback_state_before (continued n off past) i) a (omega arith))
    ∙ ap (λ feedback_state. feedback_state_left (block_input_in n i feedback_state)) (state_same k n off past i a (omega arith))
