use Rattle.std.proofs.Common.{[], ◌∷◌, ◌++◌, get_or, ap, ◌∙◌}
use Rattle.hex.specs.Hex.{encode_lower}
use Rattle.command_set.proofs.Writing.{encode_none, encode_more, digits_room}
use Rattle.command_set.proofs.text.push_hex.Goals as goal

pub loop-byte-init : goal.loop-byte-init
loop-byte-init c = encode_none c.args.into.now.items

pub push_hex_byte-requires : goal.push_hex_byte-requires
push_hex_byte-requires c =
    digits_room c.args.into.now.items c.loop-byte.into.items c.args.bytes.now c.loop-byte.byte-index c.loop-byte.invariant c.loop-byte-test.true c.requires

pub loop-byte-preserved : goal.loop-byte-preserved
loop-byte-preserved c =
    c.push_hex_byte.ensures ∙ ap (λ s. s ++ encode_lower (get_or c.args.bytes.now c.loop-byte.byte-index 0 ∷ [])) c.loop-byte.invariant
    ∙ encode_more c.args.into.now.items c.args.bytes.now c.loop-byte.byte-index c.loop-byte-test.true
