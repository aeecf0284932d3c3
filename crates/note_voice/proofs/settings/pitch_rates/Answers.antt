use Rattle.note_voice.proofs.Fields.{pitch_rates_within}
use Rattle.note_voice.proofs.settings.pitch_rates.Goals as goal

pub returns-clause-within : goal.returns-clause-within
returns-clause-within c = rw c.four.ensures.value (pitch_rates_within c.args.voice.now c.four.ensures.voice)
