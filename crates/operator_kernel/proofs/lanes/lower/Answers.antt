use Rattle.std.proofs.Common.{ℕ, pos, length, get_or, SFits, w64, ◌<◌, ◌≡◌, arith}
use Rattle.std.proofs.lemmas.Simd.{Each1-get_or}
use Rattle.operator_kernel.proofs.Fours.{four_is, four_same}
use Rattle.operator_kernel.proofs.Halves.{lower_read}
use Rattle.operator_kernel.proofs.lanes.lower.Goals as goal

pub returns : goal.returns
returns c =
    let xs = c.args.lanes in
    let n : length xs ≡ 4 = c.requires.four in
    let at = λ (i : ℕ) (lt : i < 4). lower_read (get_or xs i (pos 0)) (Each1-get_or (SFits w64) xs i (pos 0) (omega arith) c.requires.fits) in
    rw (four_is (pos 0) xs n) (four_same (at 0 (omega arith)) (at 1 (omega arith)) (at 2 (omega arith)) (at 3 (omega arith)))
