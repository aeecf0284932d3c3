use Rattle.std.proofs.Common.{SFits, w32, rules}
use Rattle.std.proofs.lemmas.Int.{to_z-of_z}
use Rattle.note_voice.proofs.Steps.{running_tuned}
use Rattle.note_voice.proofs.operator.Operator.tune.Goals as goal

pub returns : goal.returns
returns c =
    let fs = c.ranges.shift in
    let fp : SFits w32 c.args.self.now.pitch = search rules in
    let fi : SFits w32 c.increment_at-self.result = record { sfits = c.increment_at-self.type_inv } in
    let e = simp to_z-of_z at c.increment_at-self.ensures in
    λ n before operator r. simp to_z-of_z (running_tuned _ _ _ _ _ _ _ before _ operator n r e)
