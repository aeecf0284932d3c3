use Rattle.std.proofs.Common.{length, SFits, w32, rules}
use Rattle.std.proofs.lemmas.Int.{to_z-of_z}
use Rattle.note_voice.specs.Note.{envelope_settings}
use Rattle.note_voice.proofs.Steps.{running_after_block, phase_bits, gain_is, operator_is, increment_is, attenuation_is}
use Rattle.note_voice.proofs.operator.Operator.pass.Goals as goal

pub returns-clause-block : goal.returns-clause-block
returns-clause-block c =
    let fp : SFits w32 c.args.self.now.phase = search rules in
    let fa : SFits w32 c.args.self.now.gain = search rules in
    let fs : SFits w32 c.args.self.now.increment = search rules in
    let fo = c.ranges.lfo in
    let fd : SFits w32 c.attenuation_of-attenuation.result = record { sfits = c.attenuation_of-attenuation.type_inv } in
    let fg : SFits w32 c.moved-self.result.gain = search rules in
    let fl : SFits w32 c.step-level.result = record { sfits = c.step-level.type_inv } in
    let e = simp to_z-of_z at c.moved-self.ensures in
    let d = simp to_z-of_z at c.attenuation_of-attenuation.ensures.value in
    λ n m shift operator r s l y. simp to_z-of_z (operator_is _ _ _ _ _ _ _ _ operator n m r (increment_is _ _ _ _ _ _ _ operator n m r s)
    (gain_is n m operator _ _ _ e (c.step-level.ensures.value (envelope_settings n operator) (length n.past) n.off r.envelope_is)
    (attenuation_is _ _ _ operator n m _ r.amp_mod_depth_is l y d)))

pub returns-clause-passed : goal.returns-clause-passed
returns-clause-passed c =
    let fp : SFits w32 c.args.self.now.phase = search rules in
    let fs : SFits w32 c.args.self.now.increment = search rules in
    let fo = c.ranges.lfo in
    let fd : SFits w32 c.attenuation_of-attenuation.result = record { sfits = c.attenuation_of-attenuation.type_inv } in
    let fg : SFits w32 c.moved-self.result.gain = search rules in
    let fl : SFits w32 c.step-level.result = record { sfits = c.step-level.type_inv } in
    let e = simp to_z-of_z at c.moved-self.ensures in
    let d = simp to_z-of_z at c.attenuation_of-attenuation.ensures.value in
    λ n m shift operator r s l y. running_after_block _ _ _ _ _ _ _ _ _ _ operator n m r (increment_is _ _ _ _ _ _ _ operator n m r s)
    (simp to_z-of_z (phase_bits _ _ fp fs))
    (simp to_z-of_z (gain_is n m operator _ _ _ e (c.step-level.ensures.value (envelope_settings n operator) (length n.past) n.off r.envelope_is)
    (attenuation_is _ _ _ operator n m _ r.amp_mod_depth_is l y d)))
    (c.step-level.ensures.stands (envelope_settings n operator) (length n.past) n.off r.envelope_is)
