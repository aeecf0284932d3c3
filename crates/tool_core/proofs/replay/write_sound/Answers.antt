use Rattle.std.proofs.Common.{◌+◌, [], ◌++◌, refl, ◌∙◌, ap, arith}
use Rattle.outside.proofs.Shelves.{handed_on}
use Rattle.take_files.specs.Playback.{PlaybackView}
use Rattle.tool_core.proofs.Sounds.{header_begins, chunk_begins, header_begun, chunk_begun, sound_written, chunk_bytes}
use Rattle.tool_core.proofs.Writings.{begun_at_chunk, begun_whole, chunk_written, has_created, has_written}
use Rattle.tool_core.proofs.replay.write_sound.Goals as goal

pub returns-in-Err-append_all-clause-begun : goal.returns-in-Err-append_all-clause-begun
returns-in-Err-append_all-clause-begun g c =
    let b = header_begins c.args.playback.journal c.args.blocks c.wav_header.result c.wav_header.ensures in
    begun_at_chunk _ _ _ c.args.name.now [] c.wav_header.result b.more _ c.in-Ok.ensures.made b.is c.in-Err-append_all.ensures.some

pub returns-in-Err-append_all-clause-cause : goal.returns-in-Err-append_all-clause-cause
returns-in-Err-append_all-clause-cause g c =
    handed_on _ _ _ _ _ _ _ _ _ _ c.in-Ok.ensures.cause.kept c.in-Ok.ensures.cause.other (has_created _ _ _ c.in-Ok.ensures.made)
    c.in-Err-append_all.ensures.cause refl

pub chunks-init : goal.chunks-init
chunks-init g c = record {
  within = omega arith;
  journal = refl;
  block = c.requires.at;
  files =
      chunk_written _ _ _ c.args.name.now [] c.wav_header.result c.in-Ok.ensures.made c.in-Ok-append_all.ensures.all
      ∙ header_begun c.args.playback.journal c.args.blocks c.wav_header.result c.wav_header.ensures c.args.name.now _;
  has = has_written _ _ c.args.name.now ([] ++ c.wav_header.result) (chunk_written _ _ _ c.args.name.now [] c.wav_header.result c.in-Ok.ensures.made
      c.in-Ok-append_all.ensures.all);
  writing = c.in-Ok-append_all.ensures.cause.kept ∙ c.in-Ok.ensures.cause.kept;
  reading = c.in-Ok-append_all.ensures.cause.other ∙ c.in-Ok.ensures.cause.other;
  given = c.in-Ok-append_all.ensures.given ∙ c.in-Ok.ensures.given;
}

pub returns-in-Err-append_all-2-clause-begun : goal.returns-in-Err-append_all-2-clause-begun
returns-in-Err-append_all-2-clause-begun g c =
    let i = c.chunks.invariant in
    let b = chunk_begins c.args.playback.journal c.args.blocks c.chunks.from (c.chunks.from + c.min-count.result) c.as_slice.result.now
    (omega (arith, c.min-count.ensures, c.chunks-test.true))
    (chunk_bytes c.chunks.playback c.args.playback.journal c.chunks.from c.min-count.result c.as_slice.result.now _ i.journal i.block
    c.render_chunk.ensures.bytes c.as_slice.ensures.value) in
    begun_at_chunk _ _ _ c.args.name.now _ c.as_slice.result.now b.more _ i.files b.is c.in-Err-append_all-2.ensures.some

pub chunks-preserved : goal.chunks-preserved
chunks-preserved g c =
    let i = c.chunks.invariant in
    let e = c.in-Ok-append_all-2.ensures in
    record {
      within = omega (arith, c.min-count.ensures, c.chunks-test.true);
      journal = ap (λ (p : PlaybackView). p.journal) c.render_chunk.ensures.played ∙ i.journal;
      block = ap (λ (p : PlaybackView). p.block) c.render_chunk.ensures.played ∙ ap (λ n. n + c.min-count.result) i.block;
      files =
          chunk_written _ _ _ c.args.name.now _ c.as_slice.result.now i.files e.all
          ∙ chunk_begun c.args.playback.journal c.args.blocks c.chunks.from (c.chunks.from + c.min-count.result) c.as_slice.result.now
          (chunk_bytes c.chunks.playback c.args.playback.journal c.chunks.from c.min-count.result c.as_slice.result.now _ i.journal i.block
          c.render_chunk.ensures.bytes c.as_slice.ensures.value)
          c.args.name.now _;
      has = has_written _ _ c.args.name.now _ (chunk_written _ _ _ c.args.name.now _ c.as_slice.result.now i.files e.all);
      writing = e.cause.kept ∙ i.writing;
      reading = e.cause.other ∙ i.reading;
      given = e.given ∙ i.given;
    }

pub returns-in-Ok-write_out-clause-whole : goal.returns-in-Ok-write_out-clause-whole
returns-in-Ok-write_out-clause-whole g c =
    c.in-Ok-write_out.ensures.files ∙ c.chunks.invariant.files
    ∙ sound_written c.args.playback.journal c.args.blocks c.chunks.from (omega (arith, c.chunks.invariant.within, c.chunks-test.false)) c.args.name.now _

pub returns-clause-begun : goal.returns-clause-begun
returns-clause-begun g c =
    begun_whole _ _ c.args.name.now _
    (c.in-Err-write_out.ensures.files ∙ c.chunks.invariant.files
    ∙ sound_written c.args.playback.journal c.args.blocks c.chunks.from (omega (arith, c.chunks.invariant.within, c.chunks-test.false)) c.args.name.now _)

pub returns-clause-cause : goal.returns-clause-cause
returns-clause-cause g c =
    let i = c.chunks.invariant in
    handed_on _ _ _ _ _ _ _ _ _ _ i.writing i.reading i.has c.in-Err-write_out.ensures.cause refl
