use Rattle.note_voice.proofs.Fields.{levels_within}
use Rattle.note_voice.proofs.settings.levels.Goals as goal

pub returns-clause-within : goal.returns-clause-within
returns-clause-within c = rw c.four.ensures.value (levels_within c.args.voice.now c.args.operator c.four.ensures.voice c.requires.0 c.requires.1)
