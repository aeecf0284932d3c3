use Rattle.std.proofs.Common.{inl, inr, subst}
use Rattle.play_core.specs.Run.{NamesFailed}
use Rattle.play_core.proofs.Clauses.{refused_status}
use Rattle.play_core.proofs.play.play.Goals as goal

pub returns-in-Err-clause-written_out : goal.returns-in-Err-clause-written_out
returns-in-Err-clause-written_out g c = λ was. absurd (refused_status c.in-Err.why c.refuse.result c.refuse.ensures.status (inl was))

pub returns-in-Err-clause-names : goal.returns-in-Err-clause-names
returns-in-Err-clause-names g c = λ three. absurd (refused_status c.in-Err.why c.refuse.result c.refuse.ensures.status (inr three))
