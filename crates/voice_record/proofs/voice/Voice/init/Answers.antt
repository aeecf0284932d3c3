-- The literal is the opening voice.
use Rattle.std.proofs.Common.{refl}
use Rattle.voice_record.specs.Voice.{opening_voice}
use Rattle.voice_record.proofs.Voices.{opening_is_voice}
use Rattle.voice_record.proofs.voice.Voice.init.Goals as goal

pub invariant_of-result : goal.invariant_of-result
unfolding opening_voice
invariant_of-result c = opening_is_voice

pub returns-clause-value : goal.returns-clause-value
unfolding opening_voice
returns-clause-value c = refl

pub returns-clause-voice : goal.returns-clause-voice
unfolding opening_voice
returns-clause-voice c = opening_is_voice
