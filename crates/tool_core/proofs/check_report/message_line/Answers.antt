use Rattle.std.proofs.Common.{sym, ◌∙◌}
use Rattle.sysex_frame.specs.Frame.{content_of}
use Rattle.tool_core.proofs.Reports.{frame_shown, fault_shown}
use Rattle.tool_core.proofs.check_report.message_line.Goals as goal

pub returns-in-Ok : goal.returns-in-Ok
returns-in-Ok c e tells same =
    frame_shown e c.args.ended.is_too_long c.args.message.now c.frame_line.result.items (content_of c.in-Ok.frame) c.if-ended.false (tells.1)
    (same (sym (tells.1) ∙ c.if-ended.false)) c.in-Ok.ensures.frame c.frame_line.ensures

pub returns-in-Err : goal.returns-in-Err
returns-in-Err c e tells same =
    fault_shown e c.args.ended.is_too_long c.args.message.now c.other_line-in-Err.result.items c.in-Err.field-0 c.if-ended.false (tells.1)
    (same (sym (tells.1) ∙ c.if-ended.false)) c.in-Err.ensures.fault c.other_line-in-Err.ensures
