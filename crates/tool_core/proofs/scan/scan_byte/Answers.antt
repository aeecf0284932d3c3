use Rattle.tool_core.proofs.Scanning.{none_taken, some_taken, on_ok_more}
use Rattle.tool_core.specs.SysEx.{sysex_before}
use Rattle.tool_core.proofs.scan.scan_byte.Goals as goal

pub returns-in-Some-clause-scanned : goal.returns-in-Some-clause-scanned
returns-in-Some-clause-scanned c =
    on_ok_more c.scan_message.result c.scan_message.ensures
    (λ takes file below is follows was.
    some_taken c.scan_message.new.scan file c.args.offset c.in-Some.ended (c.in-Some.ensures.ended file below is follows)
    (λ e found tells. takes (sysex_before file c.args.offset) e tells (c.message.ensures.bytes file c.args.offset e
    (c.in-Some.ensures.follows file below is follows) found) was))

pub returns-in-None-clause-scanned : goal.returns-in-None-clause-scanned
returns-in-None-clause-scanned c file below is follows was = none_taken c.args.scan.now file c.args.offset (c.in-None.ensures.ended file below is follows) was
