use Rattle.plain_text.proofs.Numbers.{written, reads_decimal}
use Rattle.plain_text.proofs.number.numbers_are_decimal.Goals as goal

pub returns : goal.returns
returns c = λ least most n text range. (written least most n text range, reads_decimal least most n text range)
