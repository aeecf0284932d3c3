-- An operator of a note, from block to block and at its release.
use Rattle.std.proofs.Common.{ℕ, ℤ, pos, negsuc, ◌+ℤ◌, ◌*ℤ◌, ◌+◌, ◌*◌, ◌/◌, ◌%◌, ◌^◌, ◌<◌, ◌≡◌, ◌∙◌, ap, refl, sym, subst, add-one, List, [], ◌∷◌, ◌++◌, length}
use Rattle.std.proofs.Common.{None, SFits, to_z, of_z, w32, unsigned_abs, length-append, ◌-◌, arith}
use Rattle.std.specs.Int.{int_wrap}
use Rattle.std.proofs.lemmas.Int.{ints, to_z-of_z, wrapping_add-bits, wrapping_mul_is, int_wrap-add_left, int_wrap-add_right, int_wrap_fits}
use Rattle.std.proofs.Math.Seq.{get_or-append_seam}
use Rattle.dx_tables.specs.Numbers.{wrap}
use Rattle.block_rates.specs.declared.envelope.Envelope.{Envelope}
use Rattle.block_rates.specs.Levels.{EnvelopeSettings, envelope_level}
use Rattle.block_rates.specs.Stages.{released_after}
use Rattle.block_rates.specs.Envelopes.{IsEnvelope}
use Rattle.key_scale.specs.Levels.{output_level, rate_scale_of}
use Rattle.operator_kernel.specs.declared.OpBlock.{OpBlock}
use Rattle.dx_tables.specs.Powers.{frequency}
use Rattle.key_scale.specs.Pitch.{pitch_of_operator}
use Rattle.note_voice.specs.Modulation.{Modulation, gain_of, attenuation_of, tremolo, tremolo_depth, amp_mod_depth_of}
use Rattle.note_voice.specs.Note.{NoteData, begun, note_released, after_block, modulation_in, played_note, four_from, settings_at, envelope_settings}
use Rattle.note_voice.specs.Note.{pitch_shift_in, increment_in, increments_before, attenuation_in, gain_after, gain_before, operator_in}
use Rattle.note_voice.specs.Running.{IsRunning}
use Rattle.note_voice.proofs.Prefix.{agrees_released, agrees_after_block, increments_same, gain_before_same}

-- the past grows by one
pub length_more : (n : NoteData) (m : Modulation) → length (n.past ++ m ∷ []) ≡ length n.past + 1
length_more n m = length-append n.past (m ∷ [])

-- what moved the last block
pub modulation_last : (n : NoteData) (m : Modulation) → modulation_in (n.past ++ m ∷ []) (length n.past) ≡ m
modulation_last n m = get_or-append_seam n.past m [] _

increments_more : (n : NoteData) (operator i : ℕ) → increments_before n operator (i + 1) ≡ increments_before n operator i +ℤ increment_in n operator i
unfolding increments_before
increments_more n operator i = rw add-one

gain_more : (n : NoteData) (operator i : ℕ) → gain_before n operator (i + 1) ≡ gain_after n operator i
unfolding gain_before
gain_more n operator i = rw add-one

-- the envelope of an operator that begins
pub envelope_begun : (voice : List ℕ) (switch key velocity operator : ℕ) (note : ℤ) (rates levels : List ℕ) (out scale : ℤ) (e : Envelope)
    → note ≡ played_note voice key → rates ≡ four_from voice (21 * (6 - operator) + 0) → levels ≡ four_from voice (21 * (6 - operator) + 4)
    → out ≡ output_level voice operator note velocity → scale ≡ pos (rate_scale_of voice operator note)
    → IsEnvelope e (record { rates = rates; levels = levels; out = unsigned_abs out; rate_scale = unsigned_abs scale }) 0 None
    → IsEnvelope e (envelope_settings (begun voice switch key velocity) operator) 0 None
unfolding envelope_settings
envelope_begun voice switch key velocity operator note rates levels out scale e en er el eo es h =
    let P : EnvelopeSettings → Type 0 = λ s. IsEnvelope e s 0 None in
    let same : ◌≡◌ {A = EnvelopeSettings} (record { rates = rates; levels = levels; out = unsigned_abs out; rate_scale = unsigned_abs scale })
    (settings_at voice operator note velocity) = rw (er, el, eo, es) refl in
    subst P (same ∙ ap (λ z. settings_at voice operator z velocity) en) h

-- the first block begins at phase 0 and gain 0
pub running_at_start : (voice : List ℕ) (switch key velocity operator : ℕ) (note : ℤ) (e : Envelope) (pitch : ℤ) (amp_mod_depth : ℕ) (increment : ℤ)
    → note ≡ played_note voice key → IsEnvelope e (envelope_settings (begun voice switch key velocity) operator) 0 None
    → pitch ≡ pitch_of_operator voice operator note → amp_mod_depth ≡ amp_mod_depth_of voice operator → increment ≡ frequency (pitch +ℤ pos 0)
    → IsRunning (pos 0) (pos 0) e pitch amp_mod_depth increment (pos 0) operator (begun voice switch key velocity)
unfolding increments_before gain_before
running_at_start voice switch key velocity operator note e pitch amp_mod_depth increment en h p w i = record {
  phase_is = sym (int_wrap_fits w32 (pos 0) (record { sfits = omega arith }));
  gain_is = refl;
  envelope_is = h;
  pitch_is = p ∙ ap (pitch_of_operator voice operator) en;
  amp_mod_depth_is = w;
  increment_is = i;
}

-- another shift of the pitch
pub running_tuned : (phase gain : ℤ) (e : Envelope) (pitch : ℤ) (amp_mod_depth : ℕ) (increment increment' shift shift' : ℤ) (operator : ℕ) (n : NoteData)
    → IsRunning phase gain e pitch amp_mod_depth increment shift operator n → increment' ≡ frequency (pitch +ℤ shift')
    → IsRunning phase gain e pitch amp_mod_depth increment' shift' operator n
running_tuned phase gain e pitch amp_mod_depth increment increment' shift shift' operator n r i = record {
  phase_is = r.phase_is;
  gain_is = r.gain_is;
  envelope_is = r.envelope_is;
  pitch_is = r.pitch_is;
  amp_mod_depth_is = r.amp_mod_depth_is;
  increment_is = i;
}

-- the phase increment of the next block
pub increment_is : (phase gain : ℤ) (e : Envelope) (pitch : ℤ) (amp_mod_depth : ℕ) (increment shift : ℤ) (operator : ℕ) (n : NoteData) (m : Modulation)
    → IsRunning phase gain e pitch amp_mod_depth increment shift operator n → shift ≡ pitch_shift_in (after_block n m) (length n.past)
    → increment ≡ increment_in (after_block n m) operator (length n.past)
unfolding increment_in
increment_is phase gain e pitch amp_mod_depth increment shift operator n m r s = r.increment_is ∙ rw (r.pitch_is, s) refl

-- how far the level of an operator is attenuated in the next block
pub attenuation_is : (amp_mod_depth : ℕ) (lfo : ℤ) (lfo_depth operator : ℕ) (n : NoteData) (m : Modulation) (r : ℤ)
    → amp_mod_depth ≡ amp_mod_depth_of n.voice operator → m.lfo ≡ lfo → m.lfo_depth ≡ lfo_depth → r ≡ tremolo (amp_mod_depth * lfo_depth / 2 ^ 24) lfo
    → r ≡ attenuation_in (after_block n m) operator (length n.past)
unfolding attenuation_in tremolo_depth
attenuation_is amp_mod_depth lfo lfo_depth operator n m r w l d e = e ∙ rw (w, ← l, ← d) refl ∙ ap (attenuation_of n.voice operator) (sym (modulation_last n m))

pub running_released : (phase gain : ℤ) (e e' : Envelope) (pitch : ℤ) (amp_mod_depth : ℕ) (increment shift : ℤ) (operator : ℕ) (n : NoteData)
    → IsRunning phase gain e pitch amp_mod_depth increment shift operator n
    → IsEnvelope e' (envelope_settings n operator) (length n.past) (released_after (length n.past) n.off)
    → IsRunning phase gain e' pitch amp_mod_depth increment shift operator (note_released n)
unfolding envelope_settings
running_released phase gain e e' pitch amp_mod_depth increment shift operator n r h = record {
  pitch_is = r.pitch_is;
  amp_mod_depth_is = r.amp_mod_depth_is;
  increment_is = r.increment_is;
  phase_is = r.phase_is ∙ ap (λ z. wrap (pos 64 *ℤ z)) (sym (increments_same _ n _ _ operator (length n.past) (agrees_released n) (omega arith)));
  gain_is = r.gain_is ∙ sym (gain_before_same _ n _ _ operator (length n.past) (agrees_released n) (omega arith));
  envelope_is = h;
}

-- 64 more phase increments
phase_moved : (s f : ℤ) → int_wrap w32 (int_wrap w32 (pos 64 *ℤ s) +ℤ int_wrap w32 (f *ℤ pos 64)) ≡ wrap (pos 64 *ℤ (s +ℤ f))
phase_moved s f =
    let e : pos 64 *ℤ s +ℤ f *ℤ pos 64 ≡ pos 64 *ℤ (s +ℤ f) = omega (arith, ints) in
    int_wrap-add_left w32 (pos 64 *ℤ s) _ ∙ int_wrap-add_right w32 (pos 64 *ℤ s) (f *ℤ pos 64) ∙ ap (int_wrap w32) e

of_z_small : (z : ℤ) → SFits w32 z → of_z w32 z < 2 ^ 32
of_z_small (pos n) h = omega arith
of_z_small (negsuc n) h = omega arith

-- the phase as the code's wrapping calls compute it
pub phase_bits : (p f : ℤ) → SFits w32 p → SFits w32 f → to_z w32 ((of_z w32 p + of_z w32 f * 64 % 4294967296) % 4294967296) ≡ int_wrap w32
    (p +ℤ int_wrap w32 (f *ℤ pos 64))
phase_bits p f hp hf =
    let m : to_z w32 (of_z w32 f * 64 % 4294967296) ≡ int_wrap w32 (f *ℤ pos 64) = wrapping_mul_is w32 f (pos 64) hf (record { sfits = omega arith }) in
    let x = of_z w32 f * 64 % 4294967296 in
    wrapping_add-bits w32 (of_z w32 p) x (of_z_small p hp) (omega arith) ∙ ap (λ z. int_wrap w32 (z +ℤ to_z w32 x)) (to_z-of_z w32 p hp)
    ∙ ap (λ z. int_wrap w32 (p +ℤ z)) m

-- the gain that the code computes from the envelope's level and the drop
pub gain_is : (n : NoteData) (m : Modulation) (operator : ℕ) (level attenuation r : ℤ) → r ≡ gain_of level attenuation
    → level ≡ pos (envelope_level (envelope_settings n operator) (length n.past + 1) n.off)
    → attenuation ≡ attenuation_in (after_block n m) operator (length n.past) → r ≡ gain_after (after_block n m) operator (length n.past)
unfolding gain_after envelope_settings
gain_is n m operator level attenuation r e l d = e ∙ ap (λ z. gain_of z attenuation) l ∙ ap (gain_of _) d

pub running_after_block : (phase phase' increment gain gain' : ℤ) (e e' : Envelope) (pitch : ℤ) (amp_mod_depth : ℕ) (shift : ℤ) (operator : ℕ) (n : NoteData)
    (m : Modulation) → IsRunning phase gain e pitch amp_mod_depth increment shift operator n
    → increment ≡ increment_in (after_block n m) operator (length n.past) → phase' ≡ int_wrap w32 (phase +ℤ int_wrap w32 (increment *ℤ pos 64))
    → gain' ≡ gain_after (after_block n m) operator (length n.past) → IsEnvelope e' (envelope_settings n operator) (length n.past + 1) n.off
    → IsRunning phase' gain' e' pitch amp_mod_depth increment shift operator (after_block n m)
unfolding envelope_settings
running_after_block phase phase' increment gain gain' e e' pitch amp_mod_depth shift operator n m r s p g h =
    let k = length n.past in
    let P : ℕ → Type 0 = λ i. IsEnvelope e' (envelope_settings n operator) i n.off in
    let before : increments_before n operator k ≡ increments_before (after_block n m) operator k =
    sym (increments_same k n _ _ operator k (agrees_after_block n m) (omega arith)) in
    record {
      phase_is = p ∙ rw (r.phase_is, s) (phase_moved (increments_before n operator k) (increment_in (after_block n m) operator k))
          ∙ ap (λ z. wrap (pos 64 *ℤ z)) (ap (λ z. z +ℤ increment_in (after_block n m) operator k) before ∙ sym (increments_more (after_block n m) operator k)
          ∙ ap (increments_before (after_block n m) operator) (sym (length_more n m)));
      gain_is = g ∙ sym (gain_more (after_block n m) operator k) ∙ ap (gain_before (after_block n m) operator) (sym (length_more n m));
      envelope_is = subst P (sym (length_more n m)) h;
      pitch_is = r.pitch_is;
      amp_mod_depth_is = r.amp_mod_depth_is;
      increment_is = r.increment_is;
    }

-- the operator of the next block, from what is kept
pub operator_is : (phase increment gain gain' : ℤ) (e : Envelope) (pitch : ℤ) (amp_mod_depth : ℕ) (shift : ℤ) (operator : ℕ) (n : NoteData) (m : Modulation)
    → IsRunning phase gain e pitch amp_mod_depth increment shift operator n → increment ≡ increment_in (after_block n m) operator (length n.past)
    → gain' ≡ gain_after (after_block n m) operator (length n.past) →
    ◌≡◌ {A = OpBlock} (record { phase = phase; freq = increment; g1 = gain; g2 = gain' }) (operator_in (after_block n m) operator (length n.past))
operator_is phase increment gain gain' e pitch amp_mod_depth shift operator n m r s g =
    let k = length n.past in
    let ep : phase ≡ wrap (pos 64 *ℤ increments_before (after_block n m) operator k) = r.phase_is
    ∙ ap (λ z. wrap (pos 64 *ℤ z)) (sym (increments_same k n _ _ operator k (agrees_after_block n m) (omega arith))) in
    let eg : gain ≡ gain_before (after_block n m) operator k = r.gain_is ∙ sym (gain_before_same k n _ _ operator k (agrees_after_block n m) (omega arith)) in
    rw (ep, s, eg, g)
