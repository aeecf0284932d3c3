use Rattle.std.proofs.Common.{ℕ, ℤ, ◌≡◌, unsigned_abs, SFits, to_z, of_z, w32, ◌∙◌, ap}
use Rattle.std.proofs.lemmas.Int.{to_z-of_z}
use Rattle.block_rates.specs.declared.level_segment.LevelSegment.{LevelSegment}
use Rattle.block_rates.specs.Levels.{target_level, rate_increment, scaled_rate}
use Rattle.block_rates.proofs.envelope.Envelope.new.Goals as goal

segment_is : (a : LevelSegment) (t p : ℕ) → a.target ≡ t → a.increment ≡ p → a ≡ record { target = t; increment = p }
segment_is a t p e f =
    let level_segment : ℕ → ℕ → LevelSegment = λ t p. record { target = t; increment = p } in
    ap (λ t. level_segment t a.increment) e ∙ ap (level_segment t) f

segment_of : (a : LevelSegment) (rate parameter : ℕ) (out scale : ℤ) → SFits w32 out → SFits w32 scale
    → a.target ≡ target_level parameter (unsigned_abs (to_z w32 (of_z w32 out)))
    → a.increment ≡ rate_increment (scaled_rate rate (unsigned_abs (to_z w32 (of_z w32 scale))))
    → a ≡ record { target = target_level parameter (unsigned_abs out); increment = rate_increment (scaled_rate rate (unsigned_abs scale)) }
segment_of a rate parameter out scale p q e f = segment_is a _ _ (e ∙ ap (λ z. target_level parameter (unsigned_abs z)) (to_z-of_z w32 out p)) (f
    ∙ ap (λ z. rate_increment (scaled_rate rate (unsigned_abs z))) (to_z-of_z w32 scale q))

pub returns : goal.returns
returns c =
    let out = c.ranges.out in
    let scale = c.ranges.rate_scale in
    let a = segment_of c.new.result _ _ c.args.out c.args.rate_scale out scale c.new.ensures.target c.new.ensures.increment in
    let b = segment_of c.new-2.result _ _ c.args.out c.args.rate_scale out scale c.new-2.ensures.target c.new-2.ensures.increment in
    let d = segment_of c.new-3.result _ _ c.args.out c.args.rate_scale out scale c.new-3.ensures.target c.new-3.ensures.increment in
    let e = segment_of c.new-4.result _ _ c.args.out c.args.rate_scale out scale c.new-4.ensures.target c.new-4.ensures.increment in
    record { stands = c.new-5.ensures.stands _ 0 a b d e }
