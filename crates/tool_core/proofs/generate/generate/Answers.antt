use Rattle.std.proofs.Common.{[], List, arith, length, map, refl, ◌∙◌, ap, subst}
use Rattle.tool_core.specs.Words.{Gen}
use Rattle.tool_core.specs.Scripts.{shown}
use Rattle.tool_core.specs.declared.failure.Failure.TheVariants.{Memory}
use Rattle.tool_core.proofs.Endings.{performs, refuses, none_before, gen_does}
use Rattle.tool_core.proofs.Several.{count_scripts}
use Rattle.tool_core.specs.Effects.{Output, scripts_of}
use Rattle.tool_core.specs.Reads.{HoldsNone}
use Rattle.tool_core.proofs.Held.{failed_undone}
use Rattle.tool_core.proofs.generate.generate.Goals as goal

pub returns-in-Ok-clause-ends : goal.returns-in-Ok-clause-ends
returns-in-Ok-clause-ends g c =
    performs (Gen c.args.seed c.args.scripts c.args.commands) _ _ _ _ (none_before (g.S.Shelf.files c.args.shelf.now))
    (gen_does (g.S.Shelf.files c.args.shelf.now) c.args.seed c.args.scripts c.args.commands _ _ (map shown c.deref.result.now)
    (ap (map shown) c.deref.ensures.value ∙ c.in-Ok.ensures)
    (ap length c.deref.ensures.value ∙ count_scripts c.args.seed c.args.commands c.args.scripts c.in-Ok.files.items c.in-Ok.ensures) refl)
    c.finish_scripts.ensures.finishes

pub returns-in-Err-clause-ends : goal.returns-in-Err-clause-ends
returns-in-Err-clause-ends g c =
    refuses (Gen c.args.seed c.args.scripts c.args.commands) Memory [] _ _ _ refl c.refuse.ensures.status c.refuse.ensures.line refl refl

pub finish_scripts-requires : goal.finish_scripts-requires
finish_scripts-requires g c =
    omega (
      arith,
      ap length c.deref.ensures.value,
      count_scripts c.args.seed c.args.commands c.args.scripts c.in-Ok.files.items c.in-Ok.ensures,
      c.requires.scripts,
    )

pub returns-in-Ok-clause-held : goal.returns-in-Ok-clause-held
returns-in-Ok-clause-held g c = λ was.
    subst (λ (l : List Output). HoldsNone l (g.S.Shelf.held c.finish_scripts.new.shelf)) (ap (map shown) c.deref.ensures.value ∙ c.in-Ok.ensures)
    (c.finish_scripts.ensures.held was)

pub returns-in-Err-clause-held : goal.returns-in-Err-clause-held
returns-in-Err-clause-held g c = λ was. absurd (failed_undone Memory c.refuse.result c.refuse.ensures.status was)
