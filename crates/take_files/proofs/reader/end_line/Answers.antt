use Rattle.std.proofs.Common.{◌∷◌, ◌++◌, ◌∙◌, List, ℕ, subst, ap}
use Rattle.std.proofs.lemmas.List.{append-nil}
use Rattle.std.proofs.lemmas.Result.{err_from_is_err_and}
use Rattle.take_files.specs.Chunks.{IsSeen}
use Rattle.take_files.specs.OrderSoFar.{lines_read}
use Rattle.take_files.proofs.Standings.{no_bytes, parted}
use Rattle.take_files.proofs.reader.end_line.Goals as goal

pub returns-then-is_empty-clause-refused : goal.returns-then-is_empty-clause-refused
returns-then-is_empty-clause-refused c =
    rw (no_bytes c.args.line.now.items c.if-is_empty.ensures, append-nil (lines_read c.args.listing.now)) c.read_line.ensures.refused

pub returns-in_err-keep-clause-refused : goal.returns-in_err-keep-clause-refused
returns-in_err-keep-clause-refused c =
    let p = err_from_is_err_and c.from_residual.result c.from_residual.ensures.1 in
    rw (p.1, p.2) (λ at kind e more. c.in_err-keep.ensures.refused at kind e (10 ∷ more))

pub returns-in_err-read_line-clause-refused : goal.returns-in_err-read_line-clause-refused
returns-in_err-read_line-clause-refused c =
    let p = err_from_is_err_and c.from_residual-in_err-read_line.result c.from_residual-in_err-read_line.ensures.1 in
    rw (p.1, p.2) (λ at kind e more.
    subst (λ (bs : List ℕ). IsSeen bs at kind)
    (ap (λ (line : List ℕ). lines_read c.args.listing.now ++ (line ++ 10 ∷ more)) (c.as_slice.ensures.value ∙ c.in_ok-keep.ensures.kept)
    ∙ parted (lines_read c.args.listing.now) c.args.line.now.items c.args.end.now (10 ∷ more))
    (c.in_err-read_line.ensures.refused at kind e more))
