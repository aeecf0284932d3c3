use Rattle.std.proofs.Common.{◌∙◌, ◌+◌, ap, arith, refl}
use Rattle.std.specs.Prelude.{Option}
use Rattle.outside.specs.Files.{Files, file_of}
use Rattle.tool_core.proofs.Feeding.{fed_none, fed_more, fed_whole}
use Rattle.tool_core.proofs.Prefixes.{read_known}
use Rattle.outside.specs.Faults.{more_by}
use Rattle.tool_core.proofs.ReadCounts.{at_end, within_file, given_last, given_more, given_none}
use Rattle.tool_core.proofs.order.feed_file.Goals as goal

pub feeding-init : goal.feeding-init
feeding-init g c = record {
  files = refl;
  within = omega arith;
  chunk = refl;
  fed = fed_none (g.S.Shelf.files c.args.shelf.now) c.args.name.now _ c.requires;
  reading = refl;
  writing = refl;
  given = given_none (g.S.Shelf.given c.args.shelf.now);
  low = λ file is. omega arith;
}

pub feeding-preserved : goal.feeding-preserved
feeding-preserved g c =
    let i = c.feeding.invariant in
    let e = c.in-Ok.ensures in
    record {
      files = e.files ∙ i.files;
      within = omega (arith, i.within, c.if-count-at.false);
      chunk = c.read_at.auto.into ∙ i.chunk;
      fed = fed_more _ _ _ _ _ _ _ _ _ i.files refl i.fed e.bytes c.feed.ensures.fed;
      reading = e.cause.kept ∙ i.reading;
      writing = e.cause.other ∙ i.writing;
      given = given_more _ c.feeding.at _ c.in-Ok.count _ i.given e.given refl;
      low = λ file is. within_file file _ c.feeding.at c.in-Ok.count (i.low file is)
          (read_known _ c.args.name.now file _ c.feeding.at c.in-Ok.count (ap (λ (o : Option Files). file_of o c.args.name.now) i.files ∙ is) e.bytes);
    }

pub returns-then-count-eq0-clause-fed : goal.returns-then-count-eq0-clause-fed
returns-then-count-eq0-clause-fed g c =
    let i = c.feeding.invariant in
    fed_whole _ _ _ _ _ _ _ i.files i.within c.if-count-eq0.true (omega (arith, i.chunk, c.read_at.auto.into)) i.fed c.in-Ok.ensures.bytes

pub returns-then-count-eq0-clause-given : goal.returns-then-count-eq0-clause-given
returns-then-count-eq0-clause-given g c =
    let i = c.feeding.invariant in
    λ file is.
    given_last _ c.feeding.at _ c.in-Ok.count i.given c.in-Ok.ensures.given c.if-count-eq0.true
    ∙ ap (more_by (g.S.Shelf.given c.args.shelf.now))
    (at_end file _ c.feeding.at c.in-Ok.count c.if-count-eq0.true (omega (arith, i.chunk, c.read_at.auto.into)) (i.low file is)
    (read_known _ c.args.name.now file _ c.feeding.at c.in-Ok.count (ap (λ (o : Option Files). file_of o c.args.name.now) i.files ∙ is) c.in-Ok.ensures.bytes))
