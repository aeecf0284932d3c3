use Rattle.std.proofs.Common.{◌≡◌, ◌≤◌, ◌<◌, List, length, map, string_bytes, ap, sym, subst, ◌∙◌, arith}
use Rattle.std.specs.Prelude.{IfSome}
use Rattle.std.proofs.lemmas.List.{length-map}
use Rattle.script_plan.specs.Plan.{PlannedData}
use Rattle.play_core.specs.Words.{request_data}
use Rattle.instrument.specs.Limits.{block_limit}
use Rattle.play_core.specs.Verdict.{Plays, blocks_of_run, verdict}
use Rattle.play_core.proofs.Scans.{tells_verdict, many_blocks, few_blocks}
use Rattle.play_core.proofs.play.prepare.Goals as goal

pub returns-in-Err-clause-tells : goal.returns-in-Err-clause-tells
returns-in-Err-clause-tells g c = tells_verdict c.in-Err.why (request_data c.args.request) (g.S.Shelf.files c.args.shelf.now) c.in-Err.ensures.tells

pub returns-in-None-clause-tells : goal.returns-in-None-clause-tells
returns-in-None-clause-tells g c =
    many_blocks (request_data c.args.request) (g.S.Shelf.files c.args.shelf.now) c.in-Ok.scripts.items
    (subst (λ (l : List (List PlannedData)). block_limit < blocks_of_run c.args.request.blocks l) c.deref.ensures.value c.in-None.ensures.none)
    c.in-Ok.ensures.plans

pub returns-in-Ok-new-clause-plans : goal.returns-in-Ok-new-clause-plans
returns-in-Ok-new-clause-plans g c =
    let blocks : c.in-Some.blocks ≡ blocks_of_run c.args.request.blocks c.in-Ok.scripts.items =
    subst (λ (l : List (List PlannedData)). c.in-Some.blocks ≡ blocks_of_run c.args.request.blocks l) c.deref.ensures.value c.in-Some.ensures.some.0 in
    let few : c.in-Some.blocks ≤ block_limit = c.in-Some.ensures.some.2 in
    let within : blocks_of_run c.args.request.blocks c.in-Ok.scripts.items ≤ block_limit = omega (arith, blocks, few) in
    let setup = c.in-Ok-new.ensures c.args.request.blocks blocks in (
      ap length setup.plans_are ∙ c.in-Ok.ensures.many ∙ sym (length-map c.args.request.scripts.now string_bytes),
      subst (λ (l : List (List PlannedData)). IfSome (g.S.Shelf.files c.args.shelf.now) (λ told. verdict (request_data c.args.request) told ≡ Plays l))
          (sym setup.plans_are)
          (few_blocks (request_data c.args.request) (g.S.Shelf.files c.args.shelf.now) c.in-Ok.scripts.items within c.in-Ok.ensures.plans),
    )
