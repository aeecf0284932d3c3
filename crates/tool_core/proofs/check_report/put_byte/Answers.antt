use Rattle.std.proofs.Common.{length, sym, ap, ◌∙◌}
use Rattle.std.specs.Prelude.{Option, option_to_list}
use Rattle.tool_core.specs.SysEx.{SysExMessage, sysex_at}
use Rattle.tool_core.specs.Lines.{lines_before}
use Rattle.tool_core.proofs.Reports.{told_none, told_some, none_put, some_put}
use Rattle.tool_core.proofs.check_report.put_byte.Goals as goal

pub returns-in-Ok-clause-count : goal.returns-in-Ok-clause-count
returns-in-Ok-clause-count g c file below is follows =
    let t = told_some c.in-Some.ended (sysex_at file c.args.offset) (c.in-Some.ensures.ended file below is follows) in
    sym (ap (λ (o : Option SysExMessage). length (option_to_list o)) t.is)

pub returns-in-Ok-clause-line : goal.returns-in-Ok-clause-line
returns-in-Ok-clause-line g c file before below is follows puts =
    let t = told_some c.in-Some.ended (sysex_at file c.args.offset) (c.in-Some.ensures.ended file below is follows) in
    some_put before _ _ file c.args.offset t.sysex c.as_slice.result.now t.is
    (c.as_slice.ensures.value ∙ c.message_line-line.ensures t.sysex t.tells
    (c.message.ensures.bytes file c.args.offset t.sysex (c.in-Some.ensures.follows file below is follows) t.is))
    (c.in-Ok.ensures.ok before (lines_before file c.args.offset) puts)

pub returns-in-None-clause-count : goal.returns-in-None-clause-count
returns-in-None-clause-count g c file below is follows =
    sym (ap (λ (o : Option SysExMessage). length (option_to_list o)) (told_none (sysex_at file c.args.offset) (c.in-None.ensures.ended file below is follows)))

pub returns-in-None-clause-line : goal.returns-in-None-clause-line
returns-in-None-clause-line g c file before below is follows puts =
    none_put before _ _ file c.args.offset (told_none (sysex_at file c.args.offset) (c.in-None.ensures.ended file below is follows)) puts
