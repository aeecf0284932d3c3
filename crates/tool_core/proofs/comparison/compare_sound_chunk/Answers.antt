use Rattle.std.proofs.Common.{◌≡◌, ℕ, ◌-◌, length, take, drop, refl, ◌∙◌, ap, subst, arith, length-drop}
use Rattle.std.specs.Prelude.{Option}
use Rattle.outside.specs.Files.{Files, file_of}
use Rattle.outside.proofs.Shelves.{rest_whole}
use Rattle.tool_core.specs.Comparisons.{DiffersAt}
use Rattle.tool_core.proofs.Prefixes.{goes_same, sound_chunk_more, sound_chunk_differs, sound_chunk_whole, step_same, step_differs, same_within}
use Rattle.tool_core.proofs.Prefixes.{differs_within}
use Rattle.tool_core.proofs.comparison.compare_sound_chunk.Goals as goal

pub comparing-preserved : goal.comparing-preserved
comparing-preserved g c =
    let i = c.comparing.invariant in
    let e = c.in-Ok-Same.ensures in
    record {
      files = e.files ∙ i.files;
      reading = e.cause.kept ∙ i.reading;
      writing = e.cause.other ∙ i.writing;
      within = omega (
        arith,
        same_within _ _ _ c.in-Ok-Same.field-0-is e.within,
        ap length (rest_whole c.args.chunk.now c.comparing.done),
        length-drop
            c.comparing.done c.args.chunk.now,
        c.comparing-test.true,
      );
      same = λ file is.
          sound_chunk_more file c.args.chunk.now (take (length c.args.chunk.now - c.comparing.done) (drop c.comparing.done c.args.chunk.now)) c.args.at.now
          c.comparing.done c.in-Ok-Same.count refl
          (i.same file is)
          (subst (λ (n : ℕ). take c.in-Ok-Same.count (drop n file)
          ≡ take c.in-Ok-Same.count (take (length c.args.chunk.now - c.comparing.done) (drop c.comparing.done c.args.chunk.now))) i.at
          (step_same _ _ _ _ c.in-Ok-Same.field-0-is (e.step file (ap (λ (o : Option Files). file_of o c.args.name.now) i.files ∙ is))));
      at = omega (arith, i.at, goes_same _ _ _ _ c.in-Ok-Same.field-0-is e.on);
      given = λ before h. e.given before (i.given before h);
      read = λ file is low. e.read file (ap (λ (o : Option Files). file_of o c.args.name.now) i.files ∙ is) (i.read file is low);
    }

pub returns-in-Ok-Differs-clause-compared : goal.returns-in-Ok-Differs-clause-compared
returns-in-Ok-Differs-clause-compared g c file is =
    let i = c.comparing.invariant in
    let e = c.in-Ok-Differs.ensures in (
      omega (
        arith,
        differs_within _ _ _ c.in-Ok-Differs.field-0-is e.within,
        ap length (rest_whole c.args.chunk.now c.comparing.done),
        length-drop
            c.comparing.done c.args.chunk.now,
        c.comparing-test.true,
      ),
      sound_chunk_differs file c.args.chunk.now (take (length c.args.chunk.now - c.comparing.done) (drop c.comparing.done c.args.chunk.now)) c.args.at.now
          c.comparing.done c.in-Ok-Differs.offset refl
          i.within (i.same file is)
          (subst (λ (n : ℕ). DiffersAt (drop n file)
          (take (length c.args.chunk.now - c.comparing.done) (drop c.comparing.done c.args.chunk.now)) c.in-Ok-Differs.offset) i.at
          (step_differs _ _ _ _ c.in-Ok-Differs.field-0-is (e.step file (ap (λ (o : Option Files). file_of o c.args.name.now) i.files ∙ is)))),
    )

pub returns-clause-compared : goal.returns-clause-compared
returns-clause-compared g c file is =
    let i = c.comparing.invariant in
    sound_chunk_whole file c.args.chunk.now c.args.at.now c.comparing.done (omega (arith, i.within, c.comparing-test.false)) (i.same file is)

pub returns-in-Ok-Differs-clause-given : goal.returns-in-Ok-Differs-clause-given
returns-in-Ok-Differs-clause-given g c = λ before h. c.in-Ok-Differs.ensures.given before (c.comparing.invariant.given before h)

pub returns-in-Ok-Differs-clause-read : goal.returns-in-Ok-Differs-clause-read
returns-in-Ok-Differs-clause-read g c =
    let i = c.comparing.invariant in
    λ file is low. c.in-Ok-Differs.ensures.read file (ap (λ (o : Option Files). file_of o c.args.name.now) i.files ∙ is) (i.read file is low)

pub returns-in-Ok-Differs-clause-near : goal.returns-in-Ok-Differs-clause-near
returns-in-Ok-Differs-clause-near g c =
    let i = c.comparing.invariant in
    omega (
      arith,
      i.at,
      i.within,
      c.in-Ok-Differs.ensures.near,
      ap length (rest_whole c.args.chunk.now c.comparing.done),
      length-drop c.comparing.done
          c.args.chunk.now,
      c.comparing-test.true,
    )
