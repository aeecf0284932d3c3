use Rattle.editor.proofs.Named.{renamed_is_voice, written_name}
use Rattle.editor.proofs.editor.with_name.Goals as goal

pub returns : goal.returns
returns c =
    let voice = c.bytes-fields.ensures.voice in
    rw (c.bytes-fields.ensures.value, c.copy_from_slice.ensures.after, written_name c.args.voice.now c.args.name.now voice.count) at c.from_bytes.ensures.same
    (renamed_is_voice c.args.voice.now c.args.name.now voice c.told-name c.requires)
