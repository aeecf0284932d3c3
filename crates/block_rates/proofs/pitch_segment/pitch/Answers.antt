use Rattle.std.proofs.Common.{ℕ, ◌≡◌, ◌*ℤ◌, ◌≤ℤ◌, ap, pos, neg_ℤ, ℤ, w8, w32, SFits, to_z, of_z, arith, lit<, lit≤, ◌*◌}
use Rattle.std.proofs.lemmas.Int.{to_z-of_z, ints}
use Rattle.dx_tables.specs.Constants.{pitch_level}
use Rattle.dx_tables.proofs.Ranges.{Within, Within-mul, Within-pos, fits_from_Within}
use Rattle.block_rates.specs.Pitches.{pitch_of}
use Rattle.block_rates.proofs.pitch_segment.pitch.Goals as goal

pitch_is : (n : ℕ) (l f : ℤ) → SFits w8 l → neg_ℤ (pos 128) ≤ℤ l → l ≤ℤ pos 127 → l ≡ pitch_level n → f ≡ to_z w8 (of_z w8 l)
    → to_z w32 (of_z w32 (to_z w32 (of_z w32 f) *ℤ pos 524288)) ≡ pitch_of n
unfolding pitch_of
pitch_is n l f f8 low high a b =
    let w : Within 128 l = record { low = low; high = omega (arith, ints) } in
    let f32 : SFits w32 l = fits_from_Within w32 128 l w (lit< tt) in
    let wp : Within (128 * 524288) (l *ℤ pos 524288) = Within-mul 128 524288 l (pos 524288) w (Within-pos 524288 524288 (lit≤ tt)) in
    let fp : SFits w32 (l *ℤ pos 524288) = fits_from_Within w32 (128 * 524288) (l *ℤ pos 524288) wp (lit< tt) in
    rw (b, to_z-of_z w8 l f8, to_z-of_z w32 l f32, to_z-of_z w32 (l *ℤ pos 524288) fp) (ap (λ z. z *ℤ pos 524288) a)

pub returns-clause-value : goal.returns-clause-value
returns-clause-value c = let k = c.pitch_level.ensures in pitch_is c.args.parameter c.pitch_level.result c.from.result
    (record { sfits = c.pitch_level.type_inv }) k.low k.high k.value c.from.ensures
