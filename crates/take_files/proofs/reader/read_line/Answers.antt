use Rattle.std.proofs.lemmas.Result.{err_from_is_err_and}
use Rattle.take_files.proofs.Results.{same_fault}
use Rattle.take_files.proofs.reader.read_line.Goals as goal

pub returns-in_err-begin_listing-in-None-clause-refused : goal.returns-in_err-begin_listing-in-None-clause-refused
returns-in_err-begin_listing-in-None-clause-refused c =
    let p = err_from_is_err_and c.from_residual.result c.from_residual.ensures.1 in
    rw (p.1, p.2, c.in-None.is) (λ at kind e more. c.in_err-begin_listing-in-None.ensures.refused at kind (same_fault _ _ e) more)

pub returns-in-Some-clause-refused : goal.returns-in-Some-clause-refused
returns-in-Some-clause-refused c = rw c.in-Some.is c.add_entry.ensures.refused
