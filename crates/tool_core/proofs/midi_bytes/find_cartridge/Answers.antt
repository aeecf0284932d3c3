use Rattle.std.proofs.Common.{ap}
use Rattle.std.specs.Prelude.{Some, None}
use Rattle.tool_core.specs.Verdicts.{judged}
use Rattle.tool_core.proofs.Judging.{cartridge_refused, cartridge_is, cartridge_good, cartridge_value, cartridge_reason}
use Rattle.tool_core.proofs.midi_bytes.find_cartridge.Goals as goal

pub returns-in-Some-clause-refused : goal.returns-in-Some-clause-refused
returns-in-Some-clause-refused c =
    ap judged
    (cartridge_refused c.args.file.now c.in_ok-scan.scan c.refusal_of_cut.result (Some c.in-Some.why) c.in_ok-scan.ensures.scanned
    (c.refusal_of_cut.ensures c.args.file.now c.in_ok-scan.ensures.cut) c.in-Some.ensures)

pub returns-in-None-clause-good : goal.returns-in-None-clause-good
returns-in-None-clause-good c =
    cartridge_good c.args.file.now c.in_ok-scan.scan.cartridge c.ok_or.result c.ok_or.ensures.value
    (cartridge_is c.args.file.now c.in_ok-scan.scan c.in_ok-scan.ensures.scanned)
    (cartridge_refused c.args.file.now c.in_ok-scan.scan c.refusal_of_cut.result None c.in_ok-scan.ensures.scanned
    (c.refusal_of_cut.ensures c.args.file.now c.in_ok-scan.ensures.cut) c.in-None.ensures)

pub returns-in-None-clause-value : goal.returns-in-None-clause-value
returns-in-None-clause-value c =
    cartridge_value c.args.file.now c.in_ok-scan.scan.cartridge c.ok_or.result c.ok_or.ensures.value
    (cartridge_is c.args.file.now c.in_ok-scan.scan c.in_ok-scan.ensures.scanned)

pub returns-in-None-clause-refused : goal.returns-in-None-clause-refused
returns-in-None-clause-refused c =
    cartridge_reason c.args.file.now c.in_ok-scan.scan.cartridge c.ok_or.result c.ok_or.ensures.value
    (cartridge_is c.args.file.now c.in_ok-scan.scan c.in_ok-scan.ensures.scanned)
    (cartridge_refused c.args.file.now c.in_ok-scan.scan c.refusal_of_cut.result None c.in_ok-scan.ensures.scanned
    (c.refusal_of_cut.ensures c.args.file.now c.in_ok-scan.ensures.cut) c.in-None.ensures)
