use Rattle.std.proofs.Common.{ap}
use Rattle.command_queue.specs.Ends.{SendView}
use Rattle.port.proofs.Handled.{sent_done}
use Rattle.port.proofs.Sending.{sends_one, sends_same}
use Rattle.port.proofs.handling.send.Goals as goal

pub returns-in-Ok-clause-done : goal.returns-in-Ok-clause-done
returns-in-Ok-clause-done g c = λ curve bytes. sent_done curve bytes _ _ _ _ c.requires.clear c.in-Ok.ensures.sent.1

pub returns-in-Ok-clause-ranges : goal.returns-in-Ok-clause-ranges
returns-in-Ok-clause-ranges g c = sends_one _ _ _ c.requires.command c.in-Ok.ensures.sent.1

pub returns-in-Err-clause-ranges : goal.returns-in-Err-clause-ranges
returns-in-Err-clause-ranges g c = sends_same _ _ (ap (λ (v : SendView). v.list) c.in-Err.ensures.back.1)
