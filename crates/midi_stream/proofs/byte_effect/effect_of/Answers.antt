use Rattle.std.proofs.Common.{sym}
use Rattle.std.proofs.lemmas.Bool.{lt-ltb, le-ltb}
use Rattle.midi_stream.specs.Growth.{extended, with_status, with_byte}
use Rattle.midi_stream.proofs.ByteEffects.{advances_by}
use Rattle.midi_stream.proofs.byte_effect.effect_of.Goals as goal

pub returns-then-byte-lt128 : goal.returns-then-byte-lt128
returns-then-byte-lt128 c =
    let low = lt-ltb c.args.byte 128 c.if-byte-lt128.true in
    advances_by extended with_byte c.args.state c.args.byte c.with_data.result (λ parts. sym (rw low)) c.with_data.ensures

pub returns-else-byte-lt128 : goal.returns-else-byte-lt128
returns-else-byte-lt128 c =
    let high = le-ltb c.args.byte 128 c.if-byte-lt128.false in
    advances_by with_status with_byte c.args.state c.args.byte c.with_status_byte.result (λ parts. sym (rw high)) c.with_status_byte.ensures
