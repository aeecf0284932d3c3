use Rattle.std.proofs.Common.{◌≡◌, ◌≢◌, ◌∙◌, sym, ap}
use Rattle.hex.specs.Hex.{encode_lower}
use Rattle.command_set.specs.Command.{LoadsVoice}
use Rattle.command_set.proofs.Hexed.{voice_read, no_voice, other_voice, ne_apart, ne_same}
use Rattle.command_set.proofs.read_bytes.read_voice.Goals as goal

pub returns-then-not-decode_lower-clause-refused : goal.returns-then-not-decode_lower-clause-refused
returns-then-not-decode_lower-clause-refused c = λ e. no_voice c.args.word.now (c.decode_lower.ensures.refused c.if-not-decode_lower.true)

pub returns-then-ne-clause-refused : goal.returns-then-ne-clause-refused
returns-then-ne-clause-refused c =
    λ e.
    let apart : c.bytes.result ≢ c.decode_lower.new.into = ne_apart c.ne.result c.bytes.result c.decode_lower.new.into c.ne.ensures c.if-ne.true in
    other_voice c.args.word.now c.decode_lower.new.into c.from_bytes-voice.result (c.decode_lower.ensures.only c.if-not-decode_lower.false)
    c.from_bytes-voice.ensures.same (λ same. apart (c.bytes.ensures.value ∙ same))

pub returns-in-Err-clause-memory : goal.returns-in-Err-clause-memory
returns-in-Err-clause-memory c =
    λ e.
    let same : c.bytes.result ≡ c.decode_lower.new.into = ne_same c.ne.result c.bytes.result c.decode_lower.new.into c.ne.ensures c.if-ne.false in (
      LoadsVoice c.from_bytes-voice.result,
      voice_read c.args.word.now c.from_bytes-voice.result c.from_bytes-voice.ensures.voice
          (ap (λ s. encode_lower s) (sym c.bytes.ensures.value ∙ same) ∙ c.decode_lower.ensures.decoded c.if-not-decode_lower.false),
    )
