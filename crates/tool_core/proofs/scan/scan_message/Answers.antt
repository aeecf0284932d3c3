use Rattle.std.proofs.Common.{◌∙◌, refl, ap}
use Rattle.std.specs.Option.{option_or}
use Rattle.sysex_frame.specs.Frame.{content_of}
use Rattle.tool_core.proofs.Scanning.{long_taken, fault_taken, frame_scanned}
use Rattle.tool_core.proofs.scan.scan_message.Goals as goal

pub returns-then-ended : goal.returns-then-ended
returns-then-ended c = long_taken c.args.scan.now _ c.args.ended c.args.message.now c.if-ended.true c.or-scan.ensures c.or-scan-then-ended.ensures refl refl

pub returns-in-Ok : goal.returns-in-Ok
returns-in-Ok c =
    frame_scanned c.scan_frame.result c.args.scan.now c.scan_frame.new.scan c.args.ended c.args.message.now (content_of c.in-Ok.frame) c.if-ended.false
    c.in-Ok.ensures.frame
    c.scan_frame.ensures.bad c.scan_frame.ensures.long c.scan_frame.ensures.voice c.scan_frame.ensures.cartridge

pub returns-in-Err : goal.returns-in-Err
returns-in-Err c =
    fault_taken c.args.scan.now _ c.args.ended c.args.message.now c.in-Err.fault c.if-ended.false c.in-Err.ensures.fault
    (c.or-scan-in-Err.ensures ∙ ap (option_or c.args.scan.now.bad) c.refusal_of.ensures) refl refl refl
