use Rattle.std.proofs.Common.{◌++◌, List, sym, subst}
use Rattle.std.proofs.lemmas.List.Elements.{All-append}
use Rattle.players.specs.Players.{PlayerView, IsReady, AllTurned}
use Rattle.players.proofs.Parts.{both_turned}
use Rattle.turns.proofs.half.run_halves.Goals as goal

pub returns-clause-turned : goal.returns-clause-turned
returns-clause-turned g c =
    let before = c.split_at_mut-first.result in
    let now = c.run_parts.new in
    let e = c.run_parts.ensures in (
      All-append (λ (p : PlayerView). IsReady c.args.turn.now.line.now p) now.first now.second e.first.0 e.second.0,
      subst (λ (ps : List PlayerView). AllTurned c.args.turn.now.number ps (now.first ++ now.second)) (sym c.split_at_mut-first.ensures.value)
          (both_turned c.args.turn.now.number before.0.now before.1.now now.first now.second c.run_parts.auto.first e.first.1 e.second.1),
    )
