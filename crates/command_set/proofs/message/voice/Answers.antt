use Rattle.std.proofs.Common.{◌≡◌, ℕ, List, ◌∙◌, ap}
use Rattle.std.specs.Prelude.{Some}
use Rattle.command_set.specs.Command.{LoadsVoice}
use Rattle.command_set.specs.Message.{clamped_voice}
use Rattle.command_set.proofs.Messages.{clamped_is}
use Rattle.command_set.proofs.message.voice.Goals as goal

pub returns-in-Ok-clause-command : goal.returns-in-Ok-clause-command
returns-in-Ok-clause-command c =
    let is = clamped_is _ _ c.from_bytes.ensures.clamped ∙ ap clamped_voice c.copy_from_slice.ensures.after in
    ap (λ (v : List ℕ). Some (LoadsVoice v)) (c.in-Ok.ensures.ok ∙ is)
