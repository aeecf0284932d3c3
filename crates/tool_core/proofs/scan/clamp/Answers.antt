use Rattle.std.proofs.Common.{◌∙◌, ap}
use Rattle.command_set.specs.Message.{clamped_voice}
use Rattle.command_set.proofs.Messages.{clamped_is}
use Rattle.tool_core.proofs.scan.clamp.Goals as goal

pub returns : goal.returns
returns c = clamped_is _ _ c.from_bytes.ensures.clamped ∙ ap clamped_voice c.copy_from_slice.ensures.after
