-- The array is the message, written out.
use Rattle.std.proofs.Common.{◌<◌, arith}
use Rattle.voice_record.proofs.Voices.{greatest_small}
use Rattle.sysex_frame.proofs.Laws.{frame_unique}
use Rattle.sysex_frame.proofs.write.write_voice.Goals as goal

pub returns-clause-frame : goal.returns-clause-frame
returns-clause-frame c =
    let voice = c.bytes-fields.ensures.voice in
    record {
      sixteen = omega arith;
      size = voice.count;
      bytes = λ place l. let below : place < 155 = (rw (voice.count) at l) in omega (arith, voice.within place below, greatest_small place (omega arith));
      check = c.checksum.result;
      checked = rw (c.bytes-fields.ensures.value) at c.checksum.ensures.checked;
      spelled = cc (c.copy_from_slice.ensures.after, c.bytes-fields.ensures.value);
    }

pub returns-clause-only : goal.returns-clause-only
returns-clause-only c = λ content h. frame_unique _ content _ h (returns-clause-frame c)
