use Rattle.std.proofs.Common.{◌≡◌, ℕ, List, ◌+◌, ◌++◌, ◌∙◌, sym, ap, arith}
use Rattle.std.proofs.lemmas.List.{append-nil}
use Rattle.command_set.specs.Entries.{LoggedData, journal_data}
use Rattle.instrument.specs.Journal.{sound}
use Rattle.take_files.specs.Files.{wav_header, wav_blocks, wav_block}
use Rattle.take_files.specs.Playback.{PlaybackView}
use Rattle.take_files.proofs.Journals.{blocks_more, no_blocks}
use Rattle.take_files.proofs.sound.sound_file.Goals as goal

pub playing-init : goal.playing-init
playing-init c = record {
  sound = c.in_ok-extend_from_slice.ensures.items ∙ rw (c.in_ok-sound.ensures.items, c.wav_header.ensures, no_blocks (journal_data c.args.journal.now))
      (sym (append-nil _));
  playback = c.in_ok-playback.ensures;
}

pub render-requires : goal.render-requires
render-requires c =
    let at : c.playing.playback.block ≡ c.playing.counter = ap (λ (p : PlaybackView). p.block) c.playing.invariant.playback in
    omega (arith, at, c.playing-test.true, c.requires.blocks)

pub playing-preserved : goal.playing-preserved
playing-preserved c =
    let i = c.playing.invariant in
    let journal : List LoggedData = journal_data c.args.journal.now in
    let b : ℕ = c.playing.counter in
    record {
      sound =
          c.in_ok-extend_from_slice-2.ensures.items
          ∙ ap (λ (l : List ℕ). l ++ c.wav_block.result) i.sound
          ∙ ap (λ (l : List ℕ). (wav_header c.args.blocks ++ wav_blocks journal b) ++ l)
          (c.wav_block.ensures ∙ ap wav_block (c.render.ensures.samples ∙ ap (λ (p : PlaybackView). sound p.journal p.block) i.playback))
          ∙ sym (blocks_more journal (wav_header c.args.blocks) b);
      playback = c.render.ensures.played ∙ ap (λ (p : PlaybackView). record p { block = p.block + 1 }) i.playback;
    }
