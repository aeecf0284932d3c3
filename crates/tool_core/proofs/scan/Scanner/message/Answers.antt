use Rattle.std.proofs.Common.{◌+◌, take}
use Rattle.midi_stream.specs.Messages.{last_sysex}
use Rattle.tool_core.proofs.Streams.{sysex_bytes, kept_bytes}
use Rattle.tool_core.proofs.scan.Scanner.message.Goals as goal

pub returns-clause-bytes : goal.returns-clause-bytes
returns-clause-bytes c file offset sysex h is short =
    kept_bytes (last_sysex (take (offset + 1) file)) sysex c.sysex.result.now (sysex_bytes file offset sysex is) short
    (c.sysex.ensures.bytes (take (offset + 1) file) h.reads)
