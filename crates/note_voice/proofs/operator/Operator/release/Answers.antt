use Rattle.std.proofs.Common.{length}
use Rattle.note_voice.specs.Note.{envelope_settings}
use Rattle.note_voice.proofs.Steps.{running_released}
use Rattle.note_voice.proofs.operator.Operator.release.Goals as goal

pub returns : goal.returns
returns c = λ n shift operator r. running_released _ _ _ _ _ _ _ shift operator n r
    (c.release.ensures (envelope_settings n operator) (length n.past) n.off r.envelope_is)
