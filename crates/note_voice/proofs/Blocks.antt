-- A whole note, from block to block and at its release.
use Rattle.std.proofs.Common.{ℕ, zero, suc, ℤ, pos, ◌+ℤ◌, ◌+◌, ◌-◌, ◌<◌, ◌≤◌, ◌≡◌, ◌∙◌, ap, refl, sym, subst, add-one, List, [], ◌∷◌, length, get_or, set, None}
use Rattle.std.proofs.Common.{cond, arith}
use Rattle.std.proofs.lemmas.List.{same_lists}
use Rattle.dx_tables.proofs.Loops.{set_more, set_rest}
use Rattle.block_rates.specs.declared.pitch_envelope.PitchEnvelope.{PitchEnvelope}
use Rattle.block_rates.specs.Pitches.{PitchEnvelopeSettings, pitch_envelope_level}
use Rattle.block_rates.specs.PitchEnvelopes.{IsPitchEnvelope}
use Rattle.block_rates.specs.Stages.{released_after}
use Rattle.operator_kernel.specs.declared.OpBlock.{OpBlock}
use Rattle.operator_kernel.specs.Operator.{HasGains, FeedbackState, feedback_state_of}
use Rattle.algorithm_bus.specs.Signals.{BlockInput, feedback_state_left, note_output}
use Rattle.algorithm_bus.specs.Audible.{muted}
use Rattle.algorithm_bus.specs.Buses.{HaveGains, IsBus, op_of, no_operator, block_input_of}
use Rattle.note_voice.specs.declared.operator.Operator.{Operator}
use Rattle.note_voice.specs.Modulation.{Modulation, bend_pitch, pitch_modulation, vibrato, vibrato_depth}
use Rattle.note_voice.specs.Note.{NoteData, begun, note_released, after_block, played_note, four_from, pitch_settings, pitch_shift_in, increment_in}
use Rattle.note_voice.specs.Note.{attenuation_in, operator_in, is_on, audible_in, operators_in, feedback_state_before, note_input, note_sample}
use Rattle.note_voice.specs.Running.{IsOperator, AreOperators, IsModulated}
use Rattle.note_voice.proofs.Prefix.{agrees_released, agrees_after_block, state_same}
use Rattle.note_voice.proofs.Steps.{length_more, modulation_last}

-- what is added to the pitch of the next block
pub shift_is : (n : NoteData) (m : Modulation) (depth sensitivity : ℕ) (level r : ℤ) → depth ≡ get_or n.voice 139 0 → sensitivity ≡ get_or n.voice 143 0
    → r ≡ level +ℤ vibrato (vibrato_depth depth m.lfo_depth m.wheel) sensitivity m.lfo +ℤ bend_pitch m.bend
    → level ≡ pitch_envelope_level (pitch_settings n.voice) (length n.past + 1) n.off → r ≡ pitch_shift_in (after_block n m) (length n.past)
unfolding pitch_shift_in
shift_is n m depth sensitivity level r d v e l =
    e ∙ rw (d, v) refl ∙ ap (pitch_modulation n.voice m) l ∙ ap (λ x. pitch_modulation n.voice x
    (pitch_envelope_level (pitch_settings n.voice) (length n.past + 1) n.off)) (sym (modulation_last n m))

-- an operator as it is heard in the next block
pub audible_is : (switch : ℕ) (shift lfo : ℤ) (lfo_depth operator : ℕ) (n : NoteData) (m : Modulation) (op r : OpBlock)
    → IsModulated switch shift lfo lfo_depth n m → r ≡ cond (is_on switch operator) op (muted op) → op ≡ operator_in (after_block n m) operator (length n.past)
    → r ≡ audible_in (after_block n m) operator (length n.past)
unfolding audible_in
audible_is switch shift lfo lfo_depth operator n m op r h e o = e ∙ rw (o, h.switch_is) refl

-- the operators that a loop has gone through up to an index, and the others as before
pub record ArePassedUpTo (i : ℕ) (shift shift' : ℤ) (n n' : NoteData) (os : List Operator) : Type 0 where
  pub done : (k : ℕ) (d : Operator) → k < i → IsOperator (get_or os k d) shift' (k + 1) n'
  pub rest : (k : ℕ) (d : Operator) → i ≤ k → k < 6 → IsOperator (get_or os k d) shift (k + 1) n

pub passed_none : (shift shift' : ℤ) (n n' : NoteData) (os : List Operator) → AreOperators os shift n → ArePassedUpTo 0 shift shift' n n' os
passed_none shift shift' n n' os h = record { done = λ k d lt. absurd (omega (arith, lt)); rest = λ k d le lt. h k d lt }

pub passed_next : (i : ℕ) (shift shift' : ℤ) (n n' : NoteData) (os : List Operator) (o : Operator) → length os ≡ 6 → i < 6
    → ArePassedUpTo i shift shift' n n' os → IsOperator o shift' (i + 1) n' → ArePassedUpTo (i + 1) shift shift' n n' (set os i o)
passed_next i shift shift' n n' os o e lt m h = record {
  done = λ k d below. let l : i < length os = rw e lt in set_more (λ k o. IsOperator o shift' (k + 1) n') os i o d l (λ k b. m.done k d b) h k below;
  rest = λ k d le l. set_rest (λ o. IsOperator o shift (k + 1) n) os i o d k le (m.rest k d (omega arith) l);
}

pub passed_all : (i : ℕ) (shift shift' : ℤ) (n n' : NoteData) (os : List Operator) → 6 ≤ i → ArePassedUpTo i shift shift' n n' os → AreOperators os shift' n'
passed_all i shift shift' n n' os le m = λ k d lt. m.done k d (omega arith)

-- the first i operators as they are heard
pub record AreAudibleUpTo (i : ℕ) (n : NoteData) (block : ℕ) (ops : List OpBlock) : Type 0 where
  pub each : (k : ℕ) (d : OpBlock) → k < i → get_or ops k d ≡ audible_in n (k + 1) block

pub audible_none : (n : NoteData) (block : ℕ) (ops : List OpBlock) → AreAudibleUpTo 0 n block ops
audible_none n block ops = record { each = λ k d lt. absurd (omega (arith, lt)) }

pub audible_next : (i : ℕ) (n : NoteData) (block : ℕ) (ops : List OpBlock) (op : OpBlock) → length ops ≡ 6 → i < 6 → AreAudibleUpTo i n block ops
    → op ≡ audible_in n (i + 1) block → AreAudibleUpTo (i + 1) n block (set ops i op)
audible_next i n block ops op e lt m h = record {
  each = λ k d below. let l : i < length ops = rw e lt in set_more (λ k o. o ≡ audible_in n (k + 1) block) ops i op d l (λ k b. m.each k d b) h k below;
}

six_of : (n : NoteData) (block k : ℕ) (d : OpBlock) → k < 6 → audible_in n (k + 1) block ≡ get_or (operators_in n block) k d
six_of n block zero d lt = refl
six_of n block (suc zero) d lt = refl
six_of n block (suc (suc zero)) d lt = refl
six_of n block (suc (suc (suc zero))) d lt = refl
six_of n block (suc (suc (suc (suc zero)))) d lt = refl
six_of n block (suc (suc (suc (suc (suc zero))))) d lt = refl
six_of n block (suc (suc (suc (suc (suc (suc k)))))) d lt = absurd (omega arith)

pub audible_all : (i : ℕ) (n : NoteData) (block : ℕ) (ops : List OpBlock) → length ops ≡ 6 → 6 ≤ i → AreAudibleUpTo i n block ops → ops ≡ operators_in n block
audible_all i n block ops e le m =
    same_lists ops (operators_in n block) e
    (λ k d lt. let l : k < 6 = rw (← e) lt in m.each k d (omega arith) ∙ six_of n block k d l)

-- gains of the first i operators
pub record HaveGainsUpTo (i : ℕ) (ops : List OpBlock) : Type 0 where
  pub each : (k : ℕ) (d : OpBlock) → k < i → HasGains (get_or ops k d)

pub gains_none : (ops : List OpBlock) → HaveGainsUpTo 0 ops
gains_none ops = record { each = λ k d lt. absurd (omega (arith, lt)) }

pub gains_next : (i : ℕ) (ops : List OpBlock) (op : OpBlock) → length ops ≡ 6 → i < 6 → HaveGainsUpTo i ops → HasGains op → HaveGainsUpTo (i + 1) (set ops i op)
gains_next i ops op e lt m h = record {
  each = λ k d below. let l : i < length ops = rw e lt in set_more (λ k o. HasGains o) ops i op d l (λ k b. m.each k d b) h k below;
}

pub gains_all : (i : ℕ) (ops : List OpBlock) → 6 ≤ i → HaveGainsUpTo i ops → HaveGains ops
gains_all i ops le m = λ operator first last. m.each (operator - 1) no_operator (omega arith)

-- the six operators of a note that begins
pub operators_begun : (shift : ℤ) (n : NoteData) (a b c d e f : Operator) → IsOperator a shift 1 n → IsOperator b shift 2 n → IsOperator c shift 3 n
    → IsOperator d shift 4 n → IsOperator e shift 5 n → IsOperator f shift 6 n → AreOperators (a ∷ b ∷ c ∷ d ∷ e ∷ f ∷ []) shift n
operators_begun shift n a b c d e f p q r s t u zero o lt = p
operators_begun shift n a b c d e f p q r s t u (suc zero) o lt = q
operators_begun shift n a b c d e f p q r s t u (suc (suc zero)) o lt = r
operators_begun shift n a b c d e f p q r s t u (suc (suc (suc zero))) o lt = s
operators_begun shift n a b c d e f p q r s t u (suc (suc (suc (suc zero)))) o lt = t
operators_begun shift n a b c d e f p q r s t u (suc (suc (suc (suc (suc zero))))) o lt = u
operators_begun shift n a b c d e f p q r s t u (suc (suc (suc (suc (suc (suc k)))))) o lt = absurd (omega arith)

-- the pitch envelope of a note that begins
pub pitch_begun : (voice rates levels : List ℕ) (e : PitchEnvelope) → rates ≡ four_from voice 126 → levels ≡ four_from voice 130
    → IsPitchEnvelope e (record { rates = rates; levels = levels }) 0 None → IsPitchEnvelope e (pitch_settings voice) 0 None
unfolding pitch_settings
pitch_begun voice rates levels e er el h =
    let P : PitchEnvelopeSettings → Type 0 = λ s. IsPitchEnvelope e s 0 None in
    let same : ◌≡◌ {A = PitchEnvelopeSettings} (record { rates = rates; levels = levels })
    (record { rates = four_from voice 126; levels = four_from voice 130 }) = rw (er, el) refl in
    subst P same h

pub state_at_start : (n : NoteData) → feedback_state_of (pos 0 ∷ pos 0 ∷ []) ≡ feedback_state_before n 0
unfolding feedback_state_before
state_at_start n = refl

pub state_released : (n : NoteData) (feedback_state : List ℤ) → feedback_state_of feedback_state ≡ feedback_state_before n (length n.past)
    → feedback_state_of feedback_state ≡ feedback_state_before (note_released n) (length n.past)
state_released n feedback_state e = e ∙ sym (state_same _ n _ _ (length n.past) (agrees_released n) (omega arith))

-- what the next block is made from
pub block_input_is : (n : NoteData) (m : Modulation) (algorithm feedback : ℕ) (ops : List OpBlock) (feedback_state : List ℤ) → algorithm ≡ get_or n.voice 134 0
    → feedback ≡ get_or n.voice 135 0 → ops ≡ operators_in (after_block n m) (length n.past)
    → feedback_state_of feedback_state ≡ feedback_state_before n (length n.past)
    → block_input_of algorithm feedback ops feedback_state ≡ note_input (after_block n m) (length n.past)
block_input_is n m algorithm feedback ops feedback_state ea ef o r =
    let er : feedback_state_of feedback_state ≡ feedback_state_before (after_block n m) (length n.past) = r
    ∙ sym (state_same _ n _ _ (length n.past) (agrees_after_block n m) (omega arith)) in
    let make : ℕ → ℕ → List OpBlock → FeedbackState → BlockInput = λ a f ops feedback_state.
    record { algorithm = a; feedback = f; op = op_of ops; feedback_state = feedback_state } in
    ap (λ a. make a feedback ops (feedback_state_of feedback_state)) ea ∙ ap (λ f. make (get_or n.voice 134 0) f ops (feedback_state_of feedback_state)) ef
    ∙ ap (λ ops. make (get_or n.voice 134 0) (get_or n.voice 135 0) ops (feedback_state_of feedback_state)) o
    ∙ ap (make (get_or n.voice 134 0) (get_or n.voice 135 0) (operators_in (after_block n m) (length n.past))) er

pub sample_is : (n : NoteData) (i j : ℕ) (p : BlockInput) → p ≡ note_input n i → note_output p j ≡ note_sample n i j
unfolding note_sample
sample_is n i j p e = ap (λ q. note_output q j) e

state_more : (n : NoteData) (i : ℕ) → feedback_state_before n (i + 1) ≡ feedback_state_left (note_input n i)
unfolding feedback_state_before
state_more n i = rw add-one

-- the pitch envelope one block later
pub pitch_after_block : (e : PitchEnvelope) (n : NoteData) (m : Modulation) → IsPitchEnvelope e (pitch_settings n.voice) (length n.past + 1) n.off
    → IsPitchEnvelope e (pitch_settings n.voice) (length (after_block n m).past) n.off
pitch_after_block e n m h =
    let P : ℕ → Type 0 = λ i. IsPitchEnvelope e (pitch_settings n.voice) i n.off in
    subst P (sym (length_more n m)) h

-- the two samples that the block left
pub state_after_block : (n : NoteData) (m : Modulation) (p : BlockInput) (feedback_state : List ℤ) → p ≡ note_input (after_block n m) (length n.past)
    → feedback_state_of feedback_state ≡ feedback_state_left p → feedback_state_of feedback_state ≡ feedback_state_before (after_block n m)
    (length (after_block n m).past)
state_after_block n m p feedback_state q l = l ∙ ap feedback_state_left q ∙ sym (state_more (after_block n m) (length n.past))
    ∙ ap (feedback_state_before (after_block n m)) (sym (length_more n m))
