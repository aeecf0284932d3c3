use Rattle.std.proofs.Common.{◌∙◌, ap, refl}
use Rattle.command_set.specs.Command.{content}
use Rattle.command_set.specs.Message.{answer_outcome}
use Rattle.std.specs.Prelude.{option_map}
use Rattle.port.proofs.Handled.{passed_done, overlong_done, faulty_done, this_if_none}
use Rattle.port.proofs.Sending.{sends_same}
use Rattle.port.proofs.handling.handle.Goals as goal

pub returns-in-Ok-None-clause-done : goal.returns-in-Ok-None-clause-done
returns-in-Ok-None-clause-done g c =
    passed_done _ _ _ _ _ c.requires.clear (c.in-Ok-None.ensures.command ∙ ap (λ found. answer_outcome (option_map content found)) c.in-Ok-None.field-0-is)

pub returns-in-Ok-Some-clause-message : goal.returns-in-Ok-Some-clause-message
returns-in-Ok-Some-clause-message g c = this_if_none _ c.args.message c.send.ensures.keeps

pub returns-in-Err-TooLong-clause-done : goal.returns-in-Err-TooLong-clause-done
returns-in-Err-TooLong-clause-done g c = overlong_done _ _ _ _ _ _ c.requires.clear (rw c.in-Err-TooLong.field-0-is at c.in-Err-TooLong.ensures.refused)

pub returns-in-Err-Frame-clause-done : goal.returns-in-Err-Frame-clause-done
returns-in-Err-Frame-clause-done g c = faulty_done _ _ _ _ _ _ c.requires.clear (rw c.in-Err-Frame.field-0-is at c.in-Err-Frame.ensures.refused)

pub returns-in-Ok-None-clause-ranges : goal.returns-in-Ok-None-clause-ranges
returns-in-Ok-None-clause-ranges g c = sends_same _ _ refl

pub returns-in-Err-Memory-clause-ranges : goal.returns-in-Err-Memory-clause-ranges
returns-in-Err-Memory-clause-ranges g c = sends_same _ _ refl

pub returns-in-Err-TooLong-clause-ranges : goal.returns-in-Err-TooLong-clause-ranges
returns-in-Err-TooLong-clause-ranges g c = sends_same _ _ refl

pub returns-in-Err-Frame-clause-ranges : goal.returns-in-Err-Frame-clause-ranges
returns-in-Err-Frame-clause-ranges g c = sends_same _ _ refl
