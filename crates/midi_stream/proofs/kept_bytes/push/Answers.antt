use Rattle.std.proofs.Common.{◌∙◌, sym, arith}
use Rattle.midi_stream.proofs.Rests.{kept_all, kept_full}
use Rattle.midi_stream.proofs.kept_bytes.push.Goals as goal

pub returns-then-len-lt-KEPT : goal.returns-then-len-lt-KEPT
returns-then-len-lt-KEPT c = c.push.ensures.items ∙ sym (kept_all c.args.kept.now.items c.args.byte (omega arith))

pub returns-else-len-lt-KEPT : goal.returns-else-len-lt-KEPT
returns-else-len-lt-KEPT c = kept_full c.args.kept.now.items c.args.byte (omega arith) (omega arith)
