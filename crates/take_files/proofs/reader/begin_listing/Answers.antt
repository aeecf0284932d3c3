use Rattle.std.proofs.Common.{◌∷◌, ◌++◌, ◌∙◌, ap, refl}
use Rattle.take_files.specs.Chunks.{IsSeen}
use Rattle.take_files.specs.OrderSoFar.{text_of}
use Rattle.take_files.specs.declared.read.OrderKind.TheVariants.{Line}
use Rattle.take_files.proofs.Results.{answered}
use Rattle.take_files.proofs.Standings.{first_text, header_seen}
use Rattle.take_files.proofs.reader.begin_listing.Goals as goal

pub returns-in_default-clause-refused : goal.returns-in_default-clause-refused
returns-in_default-clause-refused c =
    λ at kind e more.
    answered (λ n k. IsSeen (c.args.line.now ++ 10 ∷ more) n k) 1 1 at Line kind refl e
    (header_seen c.args.line.now more c.requires c.in_default.ensures.none)

pub returns-in-Ok-clause-text : goal.returns-in-Ok-clause-text
returns-in-Ok-clause-text c = ap text_of c.in-Ok.ensures.listed ∙ first_text _ _ c.args.line.now c.in-Some.ensures.read.spelled
