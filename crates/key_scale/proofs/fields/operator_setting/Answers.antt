use Rattle.std.proofs.Common.{ℕ, ◌≡◌, ◌≤◌, ◌<◌, ◌+◌, ◌-◌, ◌*◌, ◌%◌, slice_index, subst, arith}
use Rattle.std.proofs.lemmas.Bool.{lt-ltb}
use Rattle.voice_record.specs.Voice.{operator_greatest, greatest_value}
use Rattle.key_scale.proofs.fields.operator_setting.Goals as goal

greatest_is : (operator parameter : ℕ) → 1 ≤ operator → operator ≤ 6 → parameter ≤ 20
    → greatest_value (21 * (6 - operator) + parameter) ≡ slice_index operator_greatest parameter
unfolding greatest_value
greatest_is operator parameter first last inside =
    let lt : 21 * (6 - operator) + parameter < 126 = omega arith in
    let e : (21 * (6 - operator) + parameter) % 21 ≡ parameter = omega arith in
    rw (lt-ltb (21 * (6 - operator) + parameter) 126 lt, e)

pub returns-clause-within : goal.returns-clause-within
returns-clause-within c = subst (λ (n : ℕ). c.get.result ≤ n) (greatest_is c.args.operator c.args.parameter c.requires.first c.requires.last
    c.requires.parameter) c.get.ensures.within
