use Rattle.std.proofs.Common.{◌≡◌, subst, ℕ, List}
use Rattle.std.specs.Prelude.{IfOk, Some, option_map}
use Rattle.command_set.specs.Command.{LoadsCartridge, content}
use Rattle.command_set.proofs.Messages.{voices_known}
use Rattle.command_set.proofs.message.cartridge.Goals as goal

pub returns-in-Ok-clause-command : goal.returns-in-Ok-clause-command
returns-in-Ok-clause-command c =
    subst (λ (v : List (List ℕ)). IfOk c.boxed.result (λ found. option_map content found ≡ Some (LoadsCartridge v)))
    (voices_known c.args.payload.now c.in-Ok.cartridge c.in-Ok.ensures.unpacked) c.boxed.ensures.command
