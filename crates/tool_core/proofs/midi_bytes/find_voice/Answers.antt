use Rattle.std.proofs.Common.{ap}
use Rattle.std.specs.Prelude.{Some, None}
use Rattle.tool_core.specs.Verdicts.{judged}
use Rattle.tool_core.proofs.Judging.{voice_refused, voice_is, voice_good, voice_value, voice_reason}
use Rattle.tool_core.proofs.midi_bytes.find_voice.Goals as goal

pub returns-in-Some-clause-refused : goal.returns-in-Some-clause-refused
returns-in-Some-clause-refused c =
    ap judged
    (voice_refused c.args.file.now c.in_ok-scan.scan c.refusal_of_cut.result (Some c.in-Some.why) c.in_ok-scan.ensures.scanned
    (c.refusal_of_cut.ensures c.args.file.now c.in_ok-scan.ensures.cut) c.in-Some.ensures)

pub returns-clause-good : goal.returns-clause-good
returns-clause-good c =
    voice_good c.args.file.now c.in_ok-scan.scan.voice c.ok_or.result c.ok_or.ensures.value
    (voice_is c.args.file.now c.in_ok-scan.scan c.in_ok-scan.ensures.scanned)
    (voice_refused c.args.file.now c.in_ok-scan.scan c.refusal_of_cut.result None c.in_ok-scan.ensures.scanned
    (c.refusal_of_cut.ensures c.args.file.now c.in_ok-scan.ensures.cut) c.in-None.ensures)

pub returns-clause-value : goal.returns-clause-value
returns-clause-value c =
    voice_value c.args.file.now c.in_ok-scan.scan.voice c.ok_or.result c.ok_or.ensures.value
    (voice_is c.args.file.now c.in_ok-scan.scan c.in_ok-scan.ensures.scanned)

pub returns-clause-refused : goal.returns-clause-refused
returns-clause-refused c =
    voice_reason c.args.file.now c.in_ok-scan.scan.voice c.ok_or.result c.ok_or.ensures.value
    (voice_is c.args.file.now c.in_ok-scan.scan c.in_ok-scan.ensures.scanned)
    (voice_refused c.args.file.now c.in_ok-scan.scan c.refusal_of_cut.result None c.in_ok-scan.ensures.scanned
    (c.refusal_of_cut.ensures c.args.file.now c.in_ok-scan.ensures.cut) c.in-None.ensures)
