use Rattle.std.proofs.Common.{ℕ, subst}
use Rattle.std.specs.Prelude.{All, IfSome, Option}
use Rattle.play_core.specs.Scan.{AreBelow}
use Rattle.play_core.proofs.Setups.{in_time_of, some_in_time}
use Rattle.play_core.proofs.setup.choose_blocks.Goals as goal

pub returns-in-Some-clause-in_time : goal.returns-in-Some-clause-in_time
returns-in-Some-clause-in_time c =
    in_time_of c.in-Some.blocks c.args.scripts.now
    (subst (λ (o : Option ℕ). IfSome o (λ b. All (λ one. AreBelow b one) c.args.scripts.now)) c.in-Some.is c.requires.below)

pub returns-in-None-clause-in_time : goal.returns-in-None-clause-in_time
returns-in-None-clause-in_time c = some_in_time c.greatest-due.result c.last_block.result c.args.scripts.now c.greatest-due.ensures.within
    c.last_block.ensures.some
