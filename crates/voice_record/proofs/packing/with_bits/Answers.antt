-- The bits lie above the byte.
use Rattle.std.proofs.Common.{◌≡◌, ℕ, ◌+◌, ◌*◌, ◌%◌, ◌^◌, ◌<◌, ◌∙◌, ap, arith, bit_or}
use Rattle.std.proofs.lemmas.Nat.{or_comm, or_shifted}
use Rattle.std.proofs.Math.Nat.{mod-eq_of_lt}
use Rattle.voice_record.proofs.packing.with_bits.Goals as goal

above : (x v s : ℕ) → x < 2 ^ s → v * 2 ^ s < 128 → bit_or x (v * 2 ^ s % 256) ≡ x + v * 2 ^ s
above x v s l h =
    let small : v * 2 ^ s < 256 = omega arith in
    ap (bit_or x) (mod-eq_of_lt small) ∙ (or_comm x (v * 2 ^ s) ∙ (or_shifted v s x l ∙ omega arith))

pub returns : goal.returns
returns c = above c.args.byte c.args.value c.args.shift c.requires.low c.requires.fits
