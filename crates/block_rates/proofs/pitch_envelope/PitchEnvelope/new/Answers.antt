use Rattle.std.proofs.Common.{ℕ, ℤ, ◌≡◌, SFits, to_z, of_z, w32, ◌∙◌, ap}
use Rattle.std.specs.Prelude.{slice_index}
use Rattle.std.proofs.lemmas.Int.{to_z-of_z}
use Rattle.block_rates.specs.declared.pitch_segment.PitchSegment.{PitchSegment}
use Rattle.block_rates.specs.Pitches.{PitchEnvelopeSettings, pitch_segment_at, pitch_of}
use Rattle.block_rates.proofs.pitch_envelope.PitchEnvelope.new.Goals as goal

segment_is : (a : PitchSegment) (t : ℤ) (p : ℕ) → a.target ≡ t → a.increment ≡ p → a ≡ record { target = t; increment = p }
segment_is a t p e f =
    let pitch_segment : ℤ → ℕ → PitchSegment = λ t p. record { target = t; increment = p } in
    ap (λ t. pitch_segment t a.increment) e ∙ ap (pitch_segment t) f

pub returns : goal.returns
returns c =
    let a = segment_is c.new.result _ _ c.new.ensures.target c.new.ensures.increment in
    let b = segment_is c.new-2.result _ _ c.new-2.ensures.target c.new-2.ensures.increment in
    let d = segment_is c.new-3.result _ _ c.new-3.ensures.target c.new-3.ensures.increment in
    let e = segment_is c.new-4.result _ _ c.new-4.ensures.target c.new-4.ensures.increment in
    let s : PitchEnvelopeSettings = record { rates = c.args.rates; levels = c.args.levels } in
    let fp : SFits w32 c.pitch.result = record { sfits = c.pitch.type_inv } in
    let level : to_z w32 (of_z w32 c.pitch.result) ≡ pitch_of (slice_index s.levels 3) = to_z-of_z w32 _ fp ∙ c.pitch.ensures.value in
    record { stands = rw level (c.new-5.ensures.stands (pitch_segment_at s) (pitch_of (slice_index s.levels 3)) a b d e) }
