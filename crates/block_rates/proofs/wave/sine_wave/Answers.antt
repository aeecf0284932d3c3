use Rattle.std.proofs.Common.{ℕ, ◌≡◌, ◌<◌, ◌≤◌, ◌/◌, ◌^◌, ◌∙◌, ◌+◌, ◌+ℤ◌, ap, pos, ℤ, unsigned_abs, w32, SFits, to_z, of_z, arith, lit<}
use Rattle.std.specs.Int.{int_shr}
use Rattle.std.proofs.lemmas.Int.{to_z-of_z, to_z_pos}
use Rattle.dx_tables.specs.Sine.{sine}
use Rattle.dx_tables.proofs.Ranges.{Within, abs_Within, Within-shr, Within-add, Within-pos, fits_from_Within}
use Rattle.block_rates.specs.Waves.{sine_wave}
use Rattle.block_rates.proofs.wave.sine_wave.Goals as goal

wave_is : (p : ℕ) (s : ℤ) → p < 2 ^ 32 → SFits w32 s → s ≡ sine (to_z w32 (p / 256)) → unsigned_abs s ≤ 2 ^ 24
    → to_z w32 (of_z w32 (pos 8388608 +ℤ to_z w32 (of_z w32 (int_shr (to_z w32 (of_z w32 s)) 1)))) ≡ sine_wave p
unfolding sine_wave
wave_is p s h fs e b =
    let n = to_z_pos w32 (p / 256) (omega arith) in
    let ws : Within (2 ^ 24) (int_shr s 1) = Within-shr (2 ^ 24) 1 s (abs_Within (2 ^ 24) s b) in
    let fh : SFits w32 (int_shr s 1) = fits_from_Within w32 (2 ^ 24) _ ws (lit< tt) in
    let ft : SFits w32 (pos 8388608 +ℤ int_shr s 1) = fits_from_Within w32 (8388608 + 2 ^ 24) _
    (Within-add 8388608 (2 ^ 24) (pos 8388608) (int_shr s 1) (Within-pos 8388608 8388608 (omega arith)) ws) (lit< tt) in
    rw (to_z-of_z w32 s fs, to_z-of_z w32 (int_shr s 1) fh, to_z-of_z w32 (pos 8388608 +ℤ int_shr s 1) ft)
    (ap (λ z. pos 8388608 +ℤ int_shr z 1) (e ∙ ap sine n))

pub returns-clause-value : goal.returns-clause-value
returns-clause-value c =
    let h : c.args.phase < 2 ^ 32 = c.ranges.phase.fits in
    wave_is c.args.phase c.sin.result h (record { sfits = c.sin.type_inv }) c.sin.ensures.value c.sin.ensures.bound
