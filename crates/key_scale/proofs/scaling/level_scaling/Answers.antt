use Rattle.std.proofs.Common.{ℕ, ◌≡◌, List, ℤ, pos, negsuc, ◌≤ℤ◌, ◌<ℤ◌, SFits, w32, ap, sym, ◌∙◌, arith}
use Rattle.std.proofs.lemmas.Int.{ints, to_z-of_z}
use Rattle.key_scale.specs.Operator.{break_point, left_depth, right_depth, left_curve, right_curve}
use Rattle.key_scale.specs.Levels.{key_distance, key_group, curve_value, key_scaling}
use Rattle.key_scale.proofs.scaling.level_scaling.Goals as goal

scaling_left : (voice : List ℕ) (operator : ℕ) (note d : ℤ) → d ≡ key_distance note (break_point voice operator) → d <ℤ pos 0
    → key_scaling voice operator note ≡ curve_value (left_curve voice operator) (left_depth voice operator) (key_group d)
unfolding key_scaling
scaling_left voice operator note (pos d) e lt = absurd (omega (arith, ints))
scaling_left voice operator note (negsuc d) e lt = rw (← e)

scaling_right : (voice : List ℕ) (operator : ℕ) (note d : ℤ) → d ≡ key_distance note (break_point voice operator) → pos 0 ≤ℤ d
    → key_scaling voice operator note ≡ curve_value (right_curve voice operator) (right_depth voice operator) (key_group d)
unfolding key_scaling
scaling_right voice operator note (pos d) e le = rw (← e)
scaling_right voice operator note (negsuc d) e le = absurd (omega (arith, ints))

pub returns-then-distance-lt0-clause-value : goal.returns-then-distance-lt0-clause-value
returns-then-distance-lt0-clause-value c =
    let fn = c.ranges.note in
    let fd : SFits w32 c.distance-distance.result = record { sfits = c.distance-distance.type_inv } in
    let fr : SFits w32 c.curve.result = record { sfits = c.curve.type_inv } in
    let t = simp to_z-of_z at c.if-distance-lt0.true in
    let d = simp to_z-of_z at c.distance-distance.ensures.value in
    let k = simp to_z-of_z at c.group-keys.ensures.value in
    let e = d ∙ ap (λ (p : ℕ). key_distance c.args.note p) c.operator_setting.ensures.value in
    to_z-of_z w32 _ fr ∙ c.curve.ensures.value ∙ rw (c.operator_setting-then-distance-lt0.ensures.value, c.operator_setting-depth.ensures.value, k)
    (sym (scaling_left c.args.voice.now c.args.operator _ _ e (grind (arith, ints))))

pub returns-else-distance-lt0-clause-value : goal.returns-else-distance-lt0-clause-value
returns-else-distance-lt0-clause-value c =
    let fn = c.ranges.note in
    let fd : SFits w32 c.distance-distance.result = record { sfits = c.distance-distance.type_inv } in
    let fr : SFits w32 c.curve-else-distance-lt0.result = record { sfits = c.curve-else-distance-lt0.type_inv } in
    let t = simp to_z-of_z at c.if-distance-lt0.false in
    let d = simp to_z-of_z at c.distance-distance.ensures.value in
    let k = simp to_z-of_z at c.group-keys.ensures.value in
    let e = d ∙ ap (λ (p : ℕ). key_distance c.args.note p) c.operator_setting.ensures.value in
    to_z-of_z w32 _ fr ∙ c.curve-else-distance-lt0.ensures.value ∙ rw (
      c.operator_setting-else-distance-lt0.ensures.value,
      c.operator_setting-depth-else-distance-lt0.ensures.value,
      k,
    ) (sym (scaling_right c.args.voice.now c.args.operator _ _ e (grind (arith, ints))))
