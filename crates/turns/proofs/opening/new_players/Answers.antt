use Rattle.std.proofs.Common.{rules, ◌≡◌, List, [], ◌∷◌, ◌++◌, map, length, ap, sym, subst, ◌∙◌, append-nil}
use Rattle.std.specs.Prelude.{All}
use Rattle.std.proofs.lemmas.List.{map-append}
use Rattle.std.proofs.lemmas.List.Elements.{All-push}
use Rattle.command_queue.specs.Ends.{SendView}
use Rattle.script_plan.specs.Plan.{PlannedData}
use Rattle.players.specs.Players.{PlayerView}
use Rattle.turns.specs.Turns.{plans_of}
use Rattle.turns.proofs.Beginning.{are_fresh, all_taken, gone_through, none_in}
use Rattle.turns.proofs.opening.new_players.Goals as goal

pub loop-end-preserved : goal.loop-end-preserved
loop-end-preserved c =
    let i = c.loop-end.invariant in
    let before = c.loop-end.players.items in
    let p = c.new.result in
    let items : c.push_reserved.new.self.items ≡ before ++ p ∷ [] = c.push_reserved.ensures.items in
    record {
      ends = ap (map (λ (p : PlayerView). p.end)) items ∙ map-append (λ (p : PlayerView). p.end) before (p ∷ [])
          ∙ (λ j. i.ends j ++ (c.new.ensures j).end ∷ []);
      split = gone_through c.loop-end.yielded c.loop-end.end-iterator.rest.items c.next.new.self.rest.items c.args.ends.items c.in-Some.end
          c.in-Some.ensures.steps.0 i.split;
      scripts = ap (λ (ps : List PlayerView). plans_of ps ++ c.next-in-loop-end.new.self.rest.items) (items
          ∙ ap (λ (q : PlayerView). before ++ q ∷ []) c.new.ensures)
          ∙ ap (λ (ps : List (List PlannedData)). ps ++ c.next-in-loop-end.new.self.rest.items)
          (map-append (λ (p : PlayerView). p.left) before (record { end = c.in-Some.end; left = c.in-Some-next.script; logged = 0 } ∷ []))
          ∙ gone_through (plans_of before) c.loop-end.scripts.rest.items c.next-in-loop-end.new.self.rest.items c.args.scripts.items c.in-Some-next.script
          c.in-Some-next.ensures.items i.scripts;
      logged = subst (All (λ (p : PlayerView). p.logged ≡ 0)) (sym items)
          (All-push (λ (p : PlayerView). p.logged ≡ 0) before p i.logged (ap (λ (p : PlayerView). p.logged) c.new.ensures));
      room = search rules;
    }

pub returns-clause-fresh : goal.returns-clause-fresh
returns-clause-fresh c =
    let i = c.loop-end.invariant in
    let ends_are : map (λ (p : PlayerView). p.end) c.loop-end.players.items ≡ c.args.ends.items =
    i.ends ∙ sym (append-nil c.loop-end.yielded) ∙ ap (λ (es : List SendView). c.loop-end.yielded
    ++ es) (sym (none_in c.loop-end.end-iterator.rest.items c.loop-end.end-iterator.rest.len c.in-None.ensures.steps.0 c.loop-end.end-iterator.rest.ok.0))
    ∙ i.split in
    are_fresh c.args.line.now c.loop-end.players.items c.args.ends.items c.args.scripts.items c.requires.ends ends_are
    (all_taken c.args.line.now c.loop-end.players.items c.args.ends.items c.args.scripts.items c.loop-end.scripts.rest.items c.requires.ends ends_are i.scripts
    c.requires.quotas) c.requires.quotas i.logged
