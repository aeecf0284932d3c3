use Rattle.std.proofs.Common.{ℕ, ◌≡◌, ◌≤◌, ◌+◌, ◌-◌, ◌*◌, ◌/◌, ◌%◌, ◌^◌, arith}
use Rattle.std.proofs.Math.Nat.{pow-le-pow_right, mul-le-mul}
use Rattle.block_rates.specs.Lfos.{delay_rate}
use Rattle.block_rates.proofs.delay.delay_rate.Goals as goal

small : (delay : ℕ) → delay ≤ 99 → (16 + (99 - delay) % 16) * 2 ^ (1 + (99 - delay) / 16) ≤ 3968
small delay h =
    let a : 16 + (99 - delay) % 16 ≤ 31 = omega arith in
    let e : 1 + (99 - delay) / 16 ≤ 7 = omega arith in
    let b : 2 ^ (1 + (99 - delay) / 16) ≤ 2 ^ 7 = pow-le-pow_right {n = 2} (omega arith) e in
    mul-le-mul a b

whole : (n : ℕ) → n ≤ 3968 → n % 18446744073709551616 ≡ n
whole n h = omega arith

pub returns-clause-value : goal.returns-clause-value
unfolding delay_rate
returns-clause-value c = rw c.from.ensures (whole _ (small c.args.delay c.requires))

pub returns-clause-bound : goal.returns-clause-bound
returns-clause-bound c = let e = small c.args.delay c.requires in rw (c.from.ensures, whole _ e) e
