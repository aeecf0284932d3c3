use Rattle.std.proofs.Common.{arith}
use Rattle.take_files.proofs.Prefixes.{no_space, no_number, number_found}
use Rattle.take_files.proofs.line_prefix.number_before.Goals as goal

pub returns-in_err-word-clause-none : goal.returns-in_err-word-clause-none
returns-in_err-word-clause-none c =
    rw c.from_residual.ensures (λ n rest low high. no_space c.args.text.now n rest c.in_err-word.ensures.whole (omega (arith, c.ranges.most.fits)))

pub returns-in_err-number-clause-none : goal.returns-in_err-number-clause-none
returns-in_err-number-clause-none c =
    rw c.from_residual-in_err-number.ensures
    (λ n rest low high.
    no_number c.args.text.now c.in_ok-word.word.now c.in_ok-word.rest.now rest c.args.least c.args.most n c.in_ok-word.ensures.cut c.in_err-number.ensures.value
    (omega (arith, c.ranges.most.fits)) low high)

pub returns-clause-found : goal.returns-clause-found
returns-clause-found c =
    number_found c.args.text.now c.in_ok-word.word.now c.in_ok-word.rest.now c.args.least c.args.most c.in_ok-number.number c.in_ok-word.ensures.cut
    c.in_ok-number.ensures.value (omega (arith, c.ranges.most.fits))
