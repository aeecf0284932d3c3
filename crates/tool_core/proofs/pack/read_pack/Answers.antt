use Rattle.std.proofs.Common.{◌≡◌, ◌<◌, ◌≤◌, length, map, string_bytes, refl, ◌∙◌, arith}
use Rattle.tool_core.proofs.Packs.{good_none, good_more, filled_none, filled_more, fails_at, all_good, all_filled, memory_failure, count_names}
use Rattle.tool_core.proofs.pack.read_pack.Goals as goal

pub loop-place-init : goal.loop-place-init
loop-place-init g c = record {
  good = good_none (g.S.Shelf.files c.args.shelf.now);
  voices = filled_none (g.S.Shelf.files c.args.shelf.now) (map string_bytes c.args.files.now) _ c.in-Ok.ensures.voices;
  files = refl;
  reading = refl;
  writing = refl;
}

pub loop-place-preserved : goal.loop-place-preserved
loop-place-preserved g c =
    let count : length (map string_bytes c.args.files.now) ≡ length c.args.files.now = count_names c.args.files.now in
    let below : c.loop-place.place < length (map string_bytes c.args.files.now) = omega arith in
    let most : length (map string_bytes c.args.files.now) ≤ 32 = omega (arith, c.requires.fits) in
    record {
      good = good_more (g.S.Shelf.files c.args.shelf.now) (g.S.Shelf.files c.loop-place.shelf) (map string_bytes c.args.files.now) c.loop-place.place
          c.name_at-file.result.now
          below c.name_at-file.ensures c.loop-place.invariant.files c.loop-place.invariant.good c.in-Ok-pack_one.ensures.good;
      voices = filled_more (g.S.Shelf.files c.args.shelf.now) (g.S.Shelf.files c.loop-place.shelf) (map string_bytes c.args.files.now) c.loop-place.place
          c.name_at-file.result.now
          c.loop-place.cartridge c.pack_one.new.cartridge
          below most c.name_at-file.ensures c.loop-place.invariant.files c.loop-place.invariant.voices c.in-Ok-pack_one.ensures.voice;
      files = c.pack_one.ensures.files ∙ c.loop-place.invariant.files;
      reading = c.in-Ok-pack_one.ensures.kept ∙ c.loop-place.invariant.reading;
      writing = c.pack_one.ensures.writing ∙ c.loop-place.invariant.writing;
    }

pub returns-in-Err-clause-refused : goal.returns-in-Err-clause-refused
returns-in-Err-clause-refused g c = memory_failure c.out_of_memory.result _ _ _ _ c.out_of_memory.ensures.why refl

pub returns-in-Err-pack_one-clause-refused : goal.returns-in-Err-pack_one-clause-refused
returns-in-Err-pack_one-clause-refused g c =
    fails_at c.in-Err-pack_one.why (g.S.Shelf.files c.args.shelf.now) (g.S.Shelf.files c.loop-place.shelf) (map string_bytes c.args.files.now)
    c.loop-place.place c.name_at-file.result.now
    (g.S.Shelf.reading c.args.shelf.now) (g.S.Shelf.reading c.loop-place.shelf) _
    c.name_at-file.ensures c.loop-place.invariant.files c.loop-place.invariant.reading c.loop-place.invariant.good c.in-Err-pack_one.ensures.refused

pub returns-in-Err-pack_one-clause-files : goal.returns-in-Err-pack_one-clause-files
returns-in-Err-pack_one-clause-files g c = c.pack_one.ensures.files ∙ c.loop-place.invariant.files

pub returns-in-Err-pack_one-clause-writing : goal.returns-in-Err-pack_one-clause-writing
returns-in-Err-pack_one-clause-writing g c = c.pack_one.ensures.writing ∙ c.loop-place.invariant.writing

pub returns-in-Ok-write-clause-good : goal.returns-in-Ok-write-clause-good
returns-in-Ok-write-clause-good g c =
    let count : length (map string_bytes c.args.files.now) ≡ length c.args.files.now = count_names c.args.files.now in
    all_good (g.S.Shelf.files c.args.shelf.now) (map string_bytes c.args.files.now) c.loop-place.place (omega arith) c.loop-place.invariant.good

pub returns-in-Ok-write-clause-message : goal.returns-in-Ok-write-clause-message
returns-in-Ok-write-clause-message g c =
    let count : length (map string_bytes c.args.files.now) ≡ length c.args.files.now = count_names c.args.files.now in
    all_filled (g.S.Shelf.files c.args.shelf.now) (map string_bytes c.args.files.now) c.loop-place.place c.loop-place.cartridge c.in-Ok-write.message.items
    (omega arith) c.loop-place.invariant.voices
    c.in-Ok-write.ensures.message
