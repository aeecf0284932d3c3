use Rattle.std.proofs.Common.{◌+ℤ◌, refl, SFits, w32, arith}
use Rattle.std.proofs.lemmas.Int.{ints, to_z-of_z}
use Rattle.note_voice.proofs.modulation.pitch_modulation.Goals as goal

pub returns-clause-value : goal.returns-clause-value
returns-clause-value c =
    let fl = c.ranges.level in
    let fv : SFits w32 c.vibrato-vibrato.result = record { sfits = c.vibrato-vibrato.type_inv } in
    let fb : SFits w32 c.bend_pitch.result = record { sfits = c.bend_pitch.type_inv } in
    let f1 : SFits w32 (c.args.level +ℤ c.vibrato-vibrato.result) = omega (arith, ints, c.vibrato-vibrato.ensures.low, c.vibrato-vibrato.ensures.high) in
    let f2 : SFits w32 (c.args.level +ℤ c.vibrato-vibrato.result +ℤ c.bend_pitch.result) =
    omega (arith, ints, c.vibrato-vibrato.ensures.low, c.vibrato-vibrato.ensures.high, c.bend_pitch.ensures.low, c.bend_pitch.ensures.high) in
    let fo = c.ranges.lfo in
    let e = simp to_z-of_z at c.vibrato-vibrato.ensures.value in
    simp to_z-of_z (rw (e, c.vibrato_depth-depth.ensures.value, c.bend_pitch.ensures.value) refl)
