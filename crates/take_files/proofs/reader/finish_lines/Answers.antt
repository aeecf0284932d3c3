use Rattle.std.proofs.Common.{◌++◌, refl, subst, Option}
use Rattle.take_files.specs.Orders.{IsRefused}
use Rattle.take_files.specs.OrderSoFar.{AreRead, lines_read}
use Rattle.take_files.specs.declared.listing.Listing.{Listing}
use Rattle.take_files.specs.declared.read.OrderKind.TheVariants.{Line}
use Rattle.take_files.proofs.Results.{answered}
use Rattle.take_files.proofs.Standings.{no_first_line, some_bytes, unfinished}
use Rattle.take_files.proofs.reader.finish_lines.Goals as goal

pub returns-in-None-clause-refused : goal.returns-in-None-clause-refused
returns-in-None-clause-refused c =
    λ at kind e.
    answered (λ n k. IsRefused (lines_read c.args.listing ++ c.args.line.now) n k) 1 1 at Line kind refl e
    (rw c.in-None.is (no_first_line c.args.line.now c.requires.line))

pub returns-else-is_empty-clause-refused : goal.returns-else-is_empty-clause-refused
returns-else-is_empty-clause-refused c =
    λ at kind e.
    answered (λ n k. IsRefused (lines_read c.args.listing ++ c.args.line.now) n k) _ _ at Line kind c.next_line.ensures e
    (rw c.in-Some.is (unfinished c.in-Some.listing c.args.line.now (subst (λ (l : Option Listing). AreRead l) c.in-Some.is c.requires.listing) c.requires.line
    (some_bytes c.args.line.now c.if-is_empty.ensures)))
