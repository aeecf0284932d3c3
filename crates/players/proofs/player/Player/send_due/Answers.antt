use Rattle.std.proofs.Common.{ap, ◌∙◌}
use Rattle.command_queue.specs.Ends.{SendView}
use Rattle.players.proofs.Turns.{begins, goes_on}
use Rattle.players.proofs.player.Player.send_due.Goals as goal

pub loop-preserved : goal.loop-preserved
loop-preserved g c =
    let i = c.loop.invariant in
    let s = (c.in-Sent.ensures).sent in
    record {
      ready = (c.in-Sent.ensures).ready;
      so_far = goes_on c.args.turn c.args.self.now c.loop.self c.send_next.new.self s.0 i.so_far s.1 s.2 s.3 s.4;
      quiet = ap (λ (e : SendView). e.refusals) s.3 ∙ i.quiet;
    }
