use Rattle.std.proofs.Common.{◌≡◌, ◌+◌, ◌*◌, ◌++◌, List, ℕ, length, sym, ◌∙◌, ap, arith, append_assoc, length-append}
use Rattle.take_files.specs.Files.{wav_blocks}
use Rattle.take_files.specs.Playback.{PlaybackView}
use Rattle.tool_core.proofs.Sounds.{chunk_bytes}
use Rattle.tool_core.proofs.comparison.render_sound_chunk.Goals as goal

pub chunks-preserved : goal.chunks-preserved
chunks-preserved c =
    let i = c.chunks.invariant in
    let J = c.args.playback.now.journal in
    let B = c.args.playback.now.block in
    let e : B + (c.chunks.done + c.min-some.result) ≡ (B + c.chunks.done) + c.min-some.result = omega arith in
    record {
      within = omega (arith, c.min-some.ensures, c.chunks-test.true);
      journal = ap (λ (p : PlaybackView). p.journal) c.render_chunk.ensures.played ∙ i.journal;
      block = ap (λ (p : PlaybackView). p.block) c.render_chunk.ensures.played ∙ ap (λ n. n + c.min-some.result) i.block ∙ sym e;
      size = ap length c.add_chunk.ensures ∙ length-append c.chunks.into.items c.as_slice.result.now
          ∙ (let s : length c.chunks.into.items + length c.as_slice.result.now ≡ 128 * (c.chunks.done + c.min-some.result) =
          omega (arith, i.size, ap length c.as_slice.ensures.value, c.render_chunk.ensures.size) in s);
      bytes =
          ap (wav_blocks J) e
          ∙ chunk_bytes c.chunks.playback J (B + c.chunks.done) c.min-some.result c.as_slice.result.now _ i.journal i.block c.render_chunk.ensures.bytes
          c.as_slice.ensures.value
          ∙ ap (λ (l : List ℕ). l ++ c.as_slice.result.now) i.bytes
          ∙ append_assoc (wav_blocks J B) c.chunks.into.items c.as_slice.result.now
          ∙ ap (λ (l : List ℕ). wav_blocks J B ++ l) (sym c.add_chunk.ensures);
    }
