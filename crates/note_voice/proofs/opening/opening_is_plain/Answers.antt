use Rattle.std.proofs.Common.{ℕ, zero, suc, ℤ, pos, ◌≡◌, ◌≤◌, ◌+◌, ◌∙◌, ap, refl, sym, subst, true, false, cond, Bool, List, get_or, arith}
use Rattle.voice_record.specs.Voice.{opening_voice}
use Rattle.operator_kernel.specs.declared.OpBlock.{OpBlock}
use Rattle.operator_kernel.specs.Operator.{silent, sample_at}
use Rattle.algorithm_bus.specs.Signals.{BlockInput, own_sample}
use Rattle.algorithm_bus.specs.Audible.{muted}
use Rattle.algorithm_bus.specs.Buses.{op_of}
use Rattle.algorithm_bus.proofs.Sends.{signals_meet_equation}
use Rattle.block_rates.specs.Levels.{envelope_level}
use Rattle.block_rates.specs.Pitches.{pitch_envelope_level}
use Rattle.note_voice.specs.Note.{NoteData, played_note, envelope_settings, pitch_settings, pitch_shift_in, attenuation_in, gain_after, gain_before, audible_in}
use Rattle.note_voice.specs.Note.{is_on, operator_in, operators_in, note_input}
use Rattle.note_voice.specs.Opening.{OthersAreSilent, IsUnmodulated}
use Rattle.note_voice.proofs.Quiet.{HasNoLevel, off_level, off_in_opening, gain_low, no_tremolo, no_vibrato, no_bend, pitch_still}
use Rattle.note_voice.proofs.opening.opening_is_plain.Goals as goal

no_depth : get_or opening_voice 140 0 ≡ 0
unfolding opening_voice
no_depth = refl

no_vibrato_depth : get_or opening_voice 139 0 ≡ 0
unfolding opening_voice
no_vibrato_depth = refl

first_algorithm : get_or opening_voice 134 0 ≡ 0
unfolding opening_voice
first_algorithm = refl

no_attenuation : (n : NoteData) (operator i : ℕ) → n.voice ≡ opening_voice → attenuation_in n operator i ≡ pos 0
unfolding attenuation_in
no_attenuation n operator i v =
    let e : get_or n.voice 140 0 ≡ 0 = ap (λ w. get_or w 140 0) v ∙ no_depth in
    rw e (no_tremolo _ _ _)

level_is : (n : NoteData) (operator i : ℕ) → HasNoLevel n.voice operator → envelope_level (envelope_settings n operator) (i + 1) n.off ≡ 1048576
unfolding envelope_settings
level_is n operator i h = off_level n.voice operator (played_note n.voice n.key) n.velocity i n.off h

after_is : (n : NoteData) (operator i : ℕ) → n.voice ≡ opening_voice → HasNoLevel n.voice operator → gain_after n operator i ≡ pos 1069
unfolding gain_after
after_is n operator i v h = rw (level_is n operator i h, no_attenuation n operator i v) gain_low

-- the gain where a block begins is not heard either
low_before : (n : NoteData) (operator i : ℕ) (p f : ℤ) → n.voice ≡ opening_voice → HasNoLevel n.voice operator
    → silent (record { phase = p; freq = f; g1 = gain_before n operator i; g2 = pos 1069 }) ≡ true
unfolding gain_before
low_before n operator zero p f v h = refl
low_before n operator (suc i) p f v h = rw (after_is n operator i v h) refl

silent_in : (n : NoteData) (operator i : ℕ) (b : Bool) → n.voice ≡ opening_voice → HasNoLevel n.voice operator
    → silent (cond b (operator_in n operator i) (muted (operator_in n operator i))) ≡ true
silent_in n operator i true v h = rw (after_is n operator i v h) (low_before n operator i (operator_in n operator i).phase (operator_in n operator i).freq v h)
silent_in n operator i false v h = refl

heard_silent : (n : NoteData) (operator i : ℕ) → n.voice ≡ opening_voice → HasNoLevel n.voice operator → silent (audible_in n operator i) ≡ true
unfolding audible_in
heard_silent n operator i v h = silent_in n operator i (is_on n.switch operator) v h

no_sample : (op : OpBlock) (j : ℕ) (x : ℤ) → silent op ≡ true → sample_at op j x ≡ pos 0
unfolding sample_at
no_sample op j x e = rw e refl

both : {X : Type 0} (b : Bool) (x y t : X) → x ≡ t → y ≡ t → cond b x y ≡ t
both true x y t p q = p
both false x y t p q = q

own_silent : (p : BlockInput) (operator : ℕ) (input : ℕ → ℤ) (j : ℕ) → silent (p.op operator) ≡ true → own_sample p operator input j ≡ pos 0
unfolding own_sample
own_silent p operator input j e = both _ _ _ (pos 0) (no_sample (p.op operator) j _ e) (no_sample (p.op operator) j _ e)

op_is : (n : NoteData) (operator i : ℕ) → 1 ≤ operator → operator ≤ 6 → op_of (operators_in n i) operator ≡ audible_in n operator i
op_is n zero i lo hi = absurd (omega arith)
op_is n (suc zero) i lo hi = refl
op_is n (suc (suc zero)) i lo hi = refl
op_is n (suc (suc (suc zero))) i lo hi = refl
op_is n (suc (suc (suc (suc zero)))) i lo hi = refl
op_is n (suc (suc (suc (suc (suc zero))))) i lo hi = refl
op_is n (suc (suc (suc (suc (suc (suc zero)))))) i lo hi = refl
op_is n (suc (suc (suc (suc (suc (suc (suc k))))))) i lo hi = absurd (omega arith)

others_are_silent : (n : NoteData) → n.voice ≡ opening_voice → OthersAreSilent n
others_are_silent n v i j operator lo hi =
    let P : List ℕ → Type 0 = λ w. HasNoLevel w operator in
    let h : HasNoLevel n.voice operator = subst P (sym v) (off_in_opening operator lo hi) in
    let s : silent (op_of (operators_in n i) operator) ≡ true = ap silent (op_is n operator i (omega arith) hi) ∙ heard_silent n operator i v h in
    let a : get_or n.voice 134 0 ≡ 0 = ap (λ w. get_or w 134 0) v ∙ first_algorithm in
    signals_meet_equation (note_input n i) (omega (arith, a)) operator j (omega arith) hi ∙ own_silent (note_input n i) operator _ j s

middle_levels : (voice : List ℕ) → voice ≡ opening_voice → (j : ℕ) (off : _) → pitch_envelope_level (pitch_settings voice) j off ≡ pos 0
unfolding pitch_settings opening_voice
middle_levels voice v j off = rw v (pitch_still _ j off refl)

is_unmodulated : (n : NoteData) → n.voice ≡ opening_voice → IsUnmodulated n
unfolding pitch_shift_in
is_unmodulated n v i b w =
    let e : get_or n.voice 139 0 ≡ 0 = ap (λ x. get_or x 139 0) v ∙ no_vibrato_depth in
    rw (middle_levels n.voice v (i + 1) n.off, e, w, no_vibrato _ _ _, b, no_bend) refl

pub returns : goal.returns
returns c = λ n v. record {
  others_are_silent = others_are_silent n v;
  is_unmodulated = is_unmodulated n v;
  has_no_attenuation = λ operator i lo hi. no_attenuation n operator i v;
}
