use Rattle.std.proofs.Common.{◌≡◌, ◌∙◌, sym, subst}
use Rattle.std.proofs.lemmas.Slice.Eq.{bytes_eq-Decides}
use Rattle.voice_record.specs.Packing.{Packs}
use Rattle.voice_record.proofs.Packed.{packs_unique}
use Rattle.cartridge.specs.Cartridge.{unpacked}
use Rattle.cartridge.proofs.Voices.{unpacked_is}
use Rattle.command_set.proofs.read_bytes.is_packed.Goals as goal

pub returns : goal.returns
returns c =
    let held : unpacked c.args.bytes.now ≡ c.unpack.result = unpacked_is c.args.bytes.now c.unpack.result c.unpack.ensures.unpacked in
    let own : Packs (unpacked c.args.bytes.now) c.pack.result = subst (λ v. Packs v c.pack.result) (sym held) c.pack.ensures.packed in
    let decides = bytes_eq-Decides c.pack.result c.args.bytes.now in (
      λ is. subst (λ bytes. Packs (unpacked c.args.bytes.now) bytes) (decides.0 (sym c.eq.ensures ∙ is)) own,
      λ packs. c.eq.ensures ∙ decides.1 (packs_unique (unpacked c.args.bytes.now) c.pack.result c.args.bytes.now own packs),
    )
