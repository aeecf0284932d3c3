use Rattle.std.proofs.Common.{ℕ, List, ◌≡◌}
use Rattle.std.specs.Prelude.{IfOk, Result, Ok, Err}
use Rattle.cartridge.specs.Cartridge.{voices_of, UnpacksAll}
use Rattle.command_set.proofs.Messages.{voices_known}
use Rattle.tool_core.proofs.scan.unpack.Goals as goal

known : {E : Type 0} (payload : List ℕ) (r : Result (List (List ℕ)) E) → IfOk r (UnpacksAll payload) → IfOk r (λ voices. voices ≡ voices_of payload)
known payload (Ok voices) u = voices_known payload voices u
known payload (Err e) u = tt

pub returns : goal.returns
returns c = known c.args.payload.now c.from_payload.result c.from_payload.ensures.unpacked
