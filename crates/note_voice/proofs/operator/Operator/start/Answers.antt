use Rattle.std.proofs.Common.{SFits, w32}
use Rattle.std.proofs.lemmas.Int.{to_z-of_z}
use Rattle.note_voice.proofs.Steps.{envelope_begun, running_at_start}
use Rattle.note_voice.proofs.operator.Operator.start.Goals as goal

pub returns : goal.returns
returns c =
    let fn = c.ranges.note in
    let fo : SFits w32 c.out_level-out.result = record { sfits = c.out_level-out.type_inv } in
    let fs : SFits w32 c.rate_scale-scale.result = record { sfits = c.rate_scale-scale.type_inv } in
    let fp : SFits w32 c.operator_pitch-pitch.result = record { sfits = c.operator_pitch-pitch.type_inv } in
    let fi : SFits w32 c.increment_at.result = record { sfits = c.increment_at.type_inv } in
    λ switch key h. simp to_z-of_z (running_at_start _ switch key _ _ c.args.note _ _ _ _ h
    (envelope_begun _ switch key _ _ c.args.note _ _ _ _ _ h c.rates.ensures.value c.levels.ensures.value (simp to_z-of_z at c.out_level-out.ensures.value)
    (simp to_z-of_z at c.rate_scale-scale.ensures.value) (simp to_z-of_z at c.new.ensures))
    (simp to_z-of_z at c.operator_pitch-pitch.ensures.value) c.amp_mod_depth.ensures.value (simp to_z-of_z at c.increment_at.ensures))
