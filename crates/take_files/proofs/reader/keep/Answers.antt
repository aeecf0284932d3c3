use Rattle.std.proofs.Common.{◌++◌}
use Rattle.take_files.specs.Chunks.{IsSeen}
use Rattle.take_files.specs.OrderSoFar.{lines_read}
use Rattle.take_files.specs.declared.read.OrderKind.TheVariants.{Line}
use Rattle.take_files.proofs.Results.{answered}
use Rattle.take_files.proofs.Standings.{part_seen}
use Rattle.take_files.proofs.reader.keep.Goals as goal

pub returns-in-Err-clause-refused : goal.returns-in-Err-clause-refused
returns-in-Err-clause-refused c =
    λ at kind e more.
    answered (λ n k. IsSeen ((lines_read c.args.listing.now ++ c.args.line.now.items) ++ (c.args.bytes.now ++ more)) n k) _ _ at Line kind c.next_line.ensures e
    (part_seen c.args.listing.now c.args.line.now.items c.args.bytes.now more c.requires.listing c.requires.line c.requires.bytes
    (λ short. let never = c.in-Err.ensures.variant.1 short in absurd (cc)))
