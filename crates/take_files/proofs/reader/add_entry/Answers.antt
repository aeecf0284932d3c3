use Rattle.std.proofs.Common.{◌∷◌, ◌++◌, ◌∙◌, Err, ap, refl}
use Rattle.command_set.specs.Entries.{logged_data}
use Rattle.take_files.specs.Chunks.{IsSeen}
use Rattle.take_files.specs.OrderSoFar.{listed, text_of}
use Rattle.take_files.specs.declared.read.OrderKind.TheVariants.{Line}
use Rattle.take_files.proofs.Results.{answered}
use Rattle.take_files.proofs.Standings.{begins, entry_more, line_seen, other_line}
use Rattle.take_files.proofs.reader.add_entry.Goals as goal

pub returns-in-Err-NotCommand-clause-refused : goal.returns-in-Err-NotCommand-clause-refused
returns-in-Err-NotCommand-clause-refused c =
    λ at kind e more.
    answered (λ n k. IsSeen (text_of (listed c.args.listing.now) ++ (c.args.line.now ++ 10 ∷ more)) n k) _ _ at Line kind c.next_line-number.ensures e
    (line_seen c.args.listing.now Line c.args.line.now more c.requires.listing
    (other_line c.args.listing.now c.args.line.now more c.requires.line (c.in-Err-NotCommand.ensures.refused (ap Err c.in-Err-NotCommand.field-0-is))))

pub returns-in-Some-clause-refused : goal.returns-in-Some-clause-refused
returns-in-Some-clause-refused c =
    λ at kind e more.
    answered (λ n k. IsSeen (text_of (listed c.args.listing.now) ++ (c.args.line.now ++ 10 ∷ more)) n k) _ _ at c.in-Some.kind kind c.next_line-number.ensures e
    (line_seen c.args.listing.now c.in-Some.kind c.args.line.now more c.requires.listing
    (c.in-Some.ensures.some c.in-Some.kind (c.args.line.now ++ 10 ∷ more) refl
    (begins c.args.line.now more (logged_data c.in-Ok.logged) c.in-Ok.ensures.writable c.in-Ok.ensures.read)))

pub returns-in-Ok-push-clause-text : goal.returns-in-Ok-push-clause-text
returns-in-Ok-push-clause-text c =
    ap text_of c.in-Ok-push.ensures.listed ∙ entry_more (listed c.args.listing.now) (logged_data c.in-Ok.logged) c.args.line.now c.in-Ok.ensures.read
