-- Each field goes above the earlier ones of its byte.
use Rattle.std.proofs.Common.{◌≡◌, refl, subst, arith, add-one}
use Rattle.voice_record.proofs.Packed.{IsFilled, filled_none, filled_more, filled_all, room, fits_byte, zeros_at}
use Rattle.voice_record.proofs.packing.pack.Goals as goal

pub loop-field-init : goal.loop-field-init
loop-field-init c = filled_none c.args.fields.now _ refl (zeros_at 128)

pub with_bits-requires-clause-low : goal.with_bits-requires-clause-low
with_bits-requires-clause-low c =
    rw (c.bit_field_of-bits.ensures.byte, c.bit_field_of-bits.ensures.shift)
    (room c.args.fields.now c.loop-field.bytes c.loop-field.field c.loop-field.invariant (omega arith))

pub with_bits-requires-clause-fits : goal.with_bits-requires-clause-fits
with_bits-requires-clause-fits c =
    rw (c.bit_field_of-bits.ensures.shift) (fits_byte c.args.fields.now c.loop-field.field c.requires (omega arith))

pub loop-field-preserved : goal.loop-field-preserved
loop-field-preserved c =
    rw (c.bit_field_of-bits.ensures.byte, add-one)
    (filled_more c.args.fields.now c.loop-field.bytes c.loop-field.field c.with_bits.result c.requires (omega arith) c.loop-field.invariant
    (rw (c.bit_field_of-bits.ensures.byte, c.bit_field_of-bits.ensures.shift) at c.with_bits.ensures))

pub returns : goal.returns
returns c =
    let last : c.loop-field.field ≡ 155 = omega arith in
    filled_all c.args.fields.now c.loop-field.bytes c.requires (subst (λ n. IsFilled c.args.fields.now c.loop-field.bytes n) last c.loop-field.invariant)
