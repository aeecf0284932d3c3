use Rattle.std.proofs.Common.{refl, pos, arith}
use Rattle.operator_kernel.proofs.Fours.{four_is, four_same, lanes_read}
use Rattle.operator_kernel.proofs.Quartets.{bits_are, sine_lane}
use Rattle.operator_kernel.proofs.quartet.sines_of.Goals as goal

pub bits-bits-requires-clause-fits : goal.bits-bits-requires-clause-fits
bits-bits-requires-clause-fits c = rw (lanes_read c.args.phases c.requires.fits) c.requires.fits

pub nonzero_rem-p0 : goal.nonzero_rem-p0
nonzero_rem-p0 c =
    rw (bits_are _ _ c.requires.four c.requires.fits c.bits-bits.ensures) (omega arith, (omega arith, (omega arith, (omega arith, tt))))

pub nonzero_rem-bits : goal.nonzero_rem-bits
nonzero_rem-bits c =
    rw (bits_are _ _ c.requires.four c.requires.fits c.bits-bits.ensures) (omega arith, (omega arith, (omega arith, (omega arith, tt))))

pub four_sines-requires-clause-indices : goal.four_sines-requires-clause-indices
four_sines-requires-clause-indices c =
    rw (bits_are _ _ c.requires.four c.requires.fits c.bits-bits.ensures) (omega arith, omega arith, omega arith, omega arith)

pub four_sines-requires-clause-four : goal.four_sines-requires-clause-four
four_sines-requires-clause-four c = rw (bits_are _ _ c.requires.four c.requires.fits c.bits-bits.ensures)

pub four_sines-requires-clause-fractions : goal.four_sines-requires-clause-fractions
four_sines-requires-clause-fractions c =
    rw (bits_are _ _ c.requires.four c.requires.fits c.bits-bits.ensures) (omega arith, (omega arith, (omega arith, (omega arith, tt))))

pub returns : goal.returns
returns c =
    rw (c.four_sines.ensures, bits_are _ _ c.requires.four c.requires.fits c.bits-bits.ensures, four_is (pos 0) c.args.phases c.requires.four)
    (four_same (sine_lane _ _ _ refl refl) (sine_lane _ _ _ refl refl) (sine_lane _ _ _ refl refl) (sine_lane _ _ _ refl refl))
