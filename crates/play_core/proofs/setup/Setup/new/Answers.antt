use Rattle.std.proofs.Common.{ap, arith, length, rules}
use Rattle.play_core.proofs.Setups.{players_many}
use Rattle.play_core.proofs.setup.Setup.new.Goals as goal

pub returns : goal.returns
returns c = λ request_data is. record {
  players = c.in_ok-players.ensures.fresh;
  plans_are = c.in_ok-players.ensures.plans;
  renderer = search rules;
  spare = search rules;
  empty = c.in_ok-ends.ensures.items;
  room = omega (
    arith,
    players_many c.in_ok-players.players.items c.args.scripts.items c.in_ok-players.ensures.plans,
    c.in_ok-ends.ensures.capacity,
    c.len.ensures,
    c.in_ok-players.players.ok,
    c.deref.ensures.len,
    c.args.scripts.ok,
  );
  blocks_are = is;
  some = c.requires.blocks.0;
  few = c.requires.blocks.1;
  places_are = search rules;
  commands = search rules;
  due = c.requires.due;
}
