use Rattle.std.proofs.Common.{◌≡◌, ℕ, List, ◌+◌, ◌++◌, ◌∙◌, sym, ap, arith}
use Rattle.command_set.specs.Entries.{LoggedData}
use Rattle.instrument.specs.Journal.{sound}
use Rattle.take_files.specs.Files.{wav_blocks, wav_block}
use Rattle.take_files.specs.Playback.{PlaybackView}
use Rattle.take_files.proofs.Journals.{block_after}
use Rattle.take_files.proofs.playback.Playback.render_chunk.Goals as goal

pub playing-preserved : goal.playing-preserved
playing-preserved c =
    let i = c.playing.invariant in
    let journal : List LoggedData = c.args.self.now.journal in
    let first : ℕ = c.args.self.now.block in
    let before : List ℕ = wav_blocks journal first in
    let next : first + (c.playing.counter + 1) ≡ first + c.playing.counter + 1 = omega arith in
    record {
      bytes =
          ap (wav_blocks journal) next ∙ block_after journal (first + c.playing.counter) before c.playing.into.items i.bytes
          ∙ ap (λ (l : List ℕ). before ++ (c.playing.into.items ++ l))
          (sym (c.wav_block.ensures ∙ ap wav_block (c.render.ensures.samples ∙ ap (λ (p : PlaybackView). sound p.journal p.block) i.played)))
          ∙ ap (λ (l : List ℕ). before ++ l) (sym c.push_block.ensures.bytes);
      played =
          c.render.ensures.played ∙ ap (λ (p : PlaybackView). record p { block = p.block + 1 }) i.played
          ∙ ap (λ (n : ℕ). record { journal = journal; block = n }) (sym next);
      size = omega (arith, c.push_block.ensures.size, i.size);
    }
