use Rattle.std.proofs.Common.{ℕ, ◌+◌, length, drop, refl, ◌∙◌, ap, subst, arith}
use Rattle.std.specs.Prelude.{Option, Some, None}
use Rattle.outside.specs.Files.{Files, file_of}
use Rattle.tool_core.specs.Comparisons.{IsPrefix}
use Rattle.tool_core.proofs.Prefixes.{none_is, prefix_at}
use Rattle.tool_core.proofs.ReadCounts.{given_begin}
use Rattle.tool_core.proofs.Sounds.{header_size, header_differs, header_prefix, chunk_prefix, sound_differs, sound_prefix, chunk_bytes}
use Rattle.tool_core.proofs.comparison.compare_sound.Goals as goal

pub returns-in-Ok-Some-clause-compared : goal.returns-in-Ok-Some-clause-compared
returns-in-Ok-Some-clause-compared g c file is =
    header_differs c.args.playback.journal file c.wav_header.result c.args.blocks c.in-Ok-Some.offset c.wav_header.ensures
    (subst (λ (n : ℕ). IsPrefix (drop n file) c.wav_header.result (Some c.in-Ok-Some.offset)) c.requires.begin
    (prefix_at _ _ _ _ c.in-Ok-Some.field-0-is (c.in-Ok-Some.ensures.compared file is)))

pub chunks-init : goal.chunks-init
chunks-init g c = record {
  files = c.in-Ok-None.ensures.files;
  reading = c.in-Ok-None.ensures.cause.kept;
  writing = c.in-Ok-None.ensures.cause.other;
  within = omega arith;
  journal = refl;
  block = c.requires.block;
  at = omega (
    arith,
    c.requires.begin,
    none_is _ _ c.in-Ok-None.field-0-is c.in-Ok-None.ensures.whole,
    header_size c.args.blocks c.wav_header.result
        c.wav_header.ensures,
  );
  given = c.in-Ok-None.ensures.given _ (given_begin _ _ c.requires.begin);
  read = λ file is. c.in-Ok-None.ensures.read file is (omega (arith, c.requires.begin));
  prefix = λ file is.
      header_prefix c.args.playback.journal file c.wav_header.result c.args.blocks c.wav_header.ensures
      (subst (λ (n : ℕ). IsPrefix (drop n file) c.wav_header.result None) c.requires.begin
      (prefix_at _ _ _ _ c.in-Ok-None.field-0-is (c.in-Ok-None.ensures.compared file is)));
}

pub returns-in-Ok-Some-compare_sound_chunk-clause-compared : goal.returns-in-Ok-Some-compare_sound_chunk-clause-compared
returns-in-Ok-Some-compare_sound_chunk-clause-compared g c file is =
    let i = c.chunks.invariant in
    sound_differs c.args.playback.journal file c.as_slice.result.now c.args.blocks c.chunks.from (c.chunks.from + c.min-count.result) _ i.at
    (chunk_bytes c.chunks.playback c.args.playback.journal c.chunks.from c.min-count.result c.as_slice.result.now _ i.journal i.block
    c.render_sound_chunk.ensures.bytes c.as_slice.ensures.value)
    (i.prefix file is) c.in-Ok-Some-compare_sound_chunk.offset (omega (arith, c.min-count.ensures, c.chunks-test.true))
    (prefix_at _ _ _ _ c.in-Ok-Some-compare_sound_chunk.field-0-is (c.in-Ok-Some-compare_sound_chunk.ensures.compared file
    (ap (λ (o : Option Files). file_of o c.args.name.now) i.files ∙ is)))

pub chunks-preserved : goal.chunks-preserved
chunks-preserved g c =
    let i = c.chunks.invariant in
    let e = c.in-Ok-None-compare_sound_chunk.ensures in
    record {
      files = e.files ∙ i.files;
      reading = e.cause.kept ∙ i.reading;
      writing = e.cause.other ∙ i.writing;
      within = omega (arith, c.min-count.ensures, c.chunks-test.true);
      journal = c.render_sound_chunk.ensures.journal ∙ i.journal;
      at = omega (
        arith,
        i.at,
        none_is _ _ c.in-Ok-None-compare_sound_chunk.field-0-is e.whole,
        ap length c.as_slice.ensures.value,
        c.render_sound_chunk.ensures.size,
      );
      given = e.given _ i.given;
      read = λ file is. e.read file (ap (λ (o : Option Files). file_of o c.args.name.now) i.files ∙ is) (i.read file is);
      block = c.render_sound_chunk.ensures.block ∙ ap (λ n. n + c.min-count.result) i.block;
      prefix = λ file is.
          chunk_prefix c.args.playback.journal file c.as_slice.result.now c.args.blocks c.chunks.from (c.chunks.from + c.min-count.result) _ i.at
          (chunk_bytes c.chunks.playback c.args.playback.journal c.chunks.from c.min-count.result c.as_slice.result.now _ i.journal i.block
          c.render_sound_chunk.ensures.bytes c.as_slice.ensures.value)
          (i.prefix file is)
          (prefix_at _ _ _ _ c.in-Ok-None-compare_sound_chunk.field-0-is (e.compared file (ap (λ (o : Option Files). file_of o c.args.name.now) i.files ∙ is)));
    }

pub returns-clause-compared : goal.returns-clause-compared
returns-clause-compared g c file is =
    sound_prefix c.args.playback.journal file c.args.blocks c.chunks.from (omega (arith, c.chunks.invariant.within, c.chunks-test.false))
    (c.chunks.invariant.prefix file is)

pub returns-in-Ok-Some-clause-given : goal.returns-in-Ok-Some-clause-given
returns-in-Ok-Some-clause-given g c = c.in-Ok-Some.ensures.given _ (given_begin _ _ c.requires.begin)

pub returns-in-Ok-Some-clause-read : goal.returns-in-Ok-Some-clause-read
returns-in-Ok-Some-clause-read g c = λ file is. c.in-Ok-Some.ensures.read file is (omega (arith, c.requires.begin))

pub returns-in-Ok-Some-clause-near : goal.returns-in-Ok-Some-clause-near
returns-in-Ok-Some-clause-near g c =
    omega (arith, c.requires.begin, c.in-Ok-Some.ensures.near, header_size c.args.blocks c.wav_header.result c.wav_header.ensures)

pub returns-in-Ok-Some-compare_sound_chunk-clause-given : goal.returns-in-Ok-Some-compare_sound_chunk-clause-given
returns-in-Ok-Some-compare_sound_chunk-clause-given g c = c.in-Ok-Some-compare_sound_chunk.ensures.given _ c.chunks.invariant.given

pub returns-in-Ok-Some-compare_sound_chunk-clause-read : goal.returns-in-Ok-Some-compare_sound_chunk-clause-read
returns-in-Ok-Some-compare_sound_chunk-clause-read g c =
    let i = c.chunks.invariant in
    λ file is. c.in-Ok-Some-compare_sound_chunk.ensures.read file (ap (λ (o : Option Files). file_of o c.args.name.now) i.files ∙ is) (i.read file is)

pub returns-in-Ok-Some-compare_sound_chunk-clause-near : goal.returns-in-Ok-Some-compare_sound_chunk-clause-near
returns-in-Ok-Some-compare_sound_chunk-clause-near g c =
    omega (
      arith,
      c.chunks.invariant.at,
      c.in-Ok-Some-compare_sound_chunk.ensures.near,
      ap length c.as_slice.ensures.value,
      c.render_sound_chunk.ensures.size,
      c.min-count.ensures,
      c.chunks-test.true,
    )
