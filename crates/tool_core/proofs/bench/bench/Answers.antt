use Rattle.std.proofs.Common.{[], refl, ◌∙◌}
use Rattle.tool_core.specs.Words.{Bench}
use Rattle.tool_core.specs.Effects.{prints}
use Rattle.tool_core.specs.declared.failure.Failure.TheVariants.{Memory}
use Rattle.tool_core.proofs.Endings.{performs, refuses, print_ends, none_before, bench_does}
use Rattle.tool_core.proofs.bench.bench.Goals as goal

pub returns-in-Ok : goal.returns-in-Ok
returns-in-Ok g c =
    performs (Bench c.args.seed c.args.blocks) _ _ _ (prints c.as_slice.result.now) (none_before (g.S.Shelf.files c.args.shelf.now))
    (bench_does (g.S.Shelf.files c.args.shelf.now) c.args.seed c.args.blocks _ _ c.as_slice.result.now (c.as_slice.ensures.value
    ∙ c.line_of-line.ensures) c.in-Ok.ensures.commands c.in-Ok.ensures.sum)
    (print_ends c.as_slice.result.now _ _ _ refl refl refl c.put_report.ensures)

pub returns-in-Err : goal.returns-in-Err
returns-in-Err g c = refuses (Bench c.args.seed c.args.blocks) Memory [] _ _ _ refl c.refuse.ensures.status c.refuse.ensures.line refl refl
