use Rattle.note_voice.proofs.Fields.{pitch_levels_within}
use Rattle.note_voice.proofs.settings.pitch_levels.Goals as goal

pub returns-clause-within : goal.returns-clause-within
returns-clause-within c = rw c.four.ensures.value (pitch_levels_within c.args.voice.now c.four.ensures.voice)
