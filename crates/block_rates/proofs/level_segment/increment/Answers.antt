use Rattle.std.proofs.Common.{ℕ, ◌≡◌, ◌≤◌, ◌+◌, ◌*◌, ◌/◌, ◌%◌, ◌^◌, arith}
use Rattle.std.proofs.Math.Nat.{pow-le-pow_right, mul-le-mul}
use Rattle.block_rates.specs.Levels.{rate_increment}
use Rattle.block_rates.proofs.level_segment.increment.Goals as goal

small : (q : ℕ) → q ≤ 63 → (4 + q % 4) * 2 ^ (8 + q / 4) ≤ 58720256
small q h =
    let a : 4 + q % 4 ≤ 7 = omega arith in
    let e : 8 + q / 4 ≤ 23 = omega arith in
    let b : 2 ^ (8 + q / 4) ≤ 2 ^ 23 = pow-le-pow_right {n = 2} (omega arith) e in
    mul-le-mul a b

whole : (n : ℕ) → n ≤ 58720256 → n % 4294967296 ≡ n
whole n h = omega arith

pub returns-clause-value : goal.returns-clause-value
unfolding rate_increment
returns-clause-value c = whole _ (small c.args.scaled c.requires)

pub returns-clause-bound : goal.returns-clause-bound
returns-clause-bound c = let e = small c.args.scaled c.requires in rw (whole _ e) e
