use Rattle.std.proofs.Common.{ap}
use Rattle.std.specs.Prelude.{Some, None}
use Rattle.tool_core.specs.Verdicts.{judged}
use Rattle.tool_core.proofs.Judging.{all_refused}
use Rattle.tool_core.proofs.midi_bytes.judge_messages.Goals as goal

pub returns-in-Some-clause-refused : goal.returns-in-Some-clause-refused
returns-in-Some-clause-refused c =
    ap judged
    (all_refused c.args.file.now c.in_ok-scan.scan c.refusal_of_cut.result (Some c.in-Some.why) c.in_ok-scan.ensures.scanned
    (c.refusal_of_cut.ensures c.args.file.now c.in_ok-scan.ensures.cut) c.in-Some.ensures)

pub returns-in-Ok-clause-good : goal.returns-in-Ok-clause-good
returns-in-Ok-clause-good c =
    all_refused c.args.file.now c.in_ok-scan.scan c.refusal_of_cut.result None c.in_ok-scan.ensures.scanned
    (c.refusal_of_cut.ensures c.args.file.now c.in_ok-scan.ensures.cut) c.in-None.ensures
