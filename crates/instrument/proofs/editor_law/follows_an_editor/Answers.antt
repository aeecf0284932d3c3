use Rattle.instrument.proofs.Following.{applied_voice, passed_voice}
use Rattle.instrument.proofs.editor_law.follows_an_editor.Goals as goal

pub returns : goal.returns
returns c = record { commands = applied_voice; blocks = passed_voice }
