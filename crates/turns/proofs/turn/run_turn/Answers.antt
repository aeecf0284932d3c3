use Rattle.std.proofs.Common.{◌≡◌, length, ap, sym, ◌∙◌}
use Rattle.std.proofs.lemmas.List.{length-map}
use Rattle.command_set.specs.Entries.{logged_data}
use Rattle.turns.proofs.Logging.{prefix_logged, logs_join}
use Rattle.turns.proofs.Steps.{counted_start, turn_after}
use Rattle.turns.proofs.Turning.{heard_before}
use Rattle.turns.specs.Steps.{at_block}
use Rattle.turns.proofs.turn.run_turn.Goals as goal

pub settle-requires-clause-counted : goal.settle-requires-clause-counted
settle-requires-clause-counted g c =
    let r = c.requires.turns in (
      c.run_halves.new.players,
      counted_start c.args.turn.now.number c.args.turn.now.line.now r.0 c.args.renderer.now c.run_halves.new.renderer c.journal-seen.result.now
          c.args.players.now
          c.run_halves.new.players
          r.1 c.run_halves.ensures.turned c.run_halves.auto.players c.run_halves.ensures.rendered.0 c.journal-seen.ensures.journal,
    )

pub returns-clause-turns : goal.returns-clause-turns
returns-clause-turns g c =
    turn_after c.args.turn.now.number c.args.turn.now.line.now c.args.renderer.now c.run_halves.new.renderer c.settle.new.renderer c.journal-seen.result.now
    c.args.players.now
    c.run_halves.new.players c.settle.new.players
    c.requires.t c.run_halves.ensures.turned c.run_halves.auto.players c.run_halves.ensures.rendered.0 c.journal-seen.ensures.journal c.settle.ensures.took
    c.settle.ensures.counted c.settle.ensures.logged

pub returns-clause-sounded : goal.returns-clause-sounded
returns-clause-sounded g c =
    heard_before c.args.turn.now.number c.args.renderer.now c.run_halves.new.renderer c.settle.new.renderer c.run_halves.new.samples
    c.run_halves.ensures.rendered.0
    c.run_halves.ensures.rendered.1 c.settle.ensures.kept c.run_halves.ensures.rendered.2

pub returns-clause-prefix : goal.returns-clause-prefix
returns-clause-prefix g c =
    prefix_logged (at_block c.args.turn.now.number c.args.renderer.now) c.settle.new.renderer
    (logs_join (at_block c.args.turn.now.number c.args.renderer.now) c.run_halves.new.renderer c.settle.new.renderer c.run_halves.ensures.rendered.0
    c.settle.ensures.took)
