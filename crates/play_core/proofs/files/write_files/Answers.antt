use Rattle.std.proofs.Common.{inl, ◌∙◌, refl}
use Rattle.outside.proofs.Shelves.{handed_on}
use Rattle.play_core.proofs.Writes.{both_made, sound_grows, text_grows, has_first, has_second, sound_stopped, text_stopped}
use Rattle.play_core.proofs.files.write_files.Goals as goal

pub returns-in-Err-create-clause-stopped : goal.returns-in-Err-create-clause-stopped
returns-in-Err-create-clause-stopped g c = inl (c.in-Err-create.ensures.failed ∙ c.in-Ok.ensures.made)

pub returns-in-Err-append_all-clause-stopped : goal.returns-in-Err-append_all-clause-stopped
returns-in-Err-append_all-clause-stopped g c =
    sound_stopped _ _ c.requires _ _ _ _ c.args.text.now (both_made _ _ c.requires _ _ _ c.in-Ok.ensures.made c.in-Ok-create.ensures.made)
    c.in-Err-append_all.ensures.some

pub returns-in-Err-append_all-clause-cause : goal.returns-in-Err-append_all-clause-cause
returns-in-Err-append_all-clause-cause g c =
    handed_on _ _ _ _ _ _ _ _ _ _ (c.in-Ok-create.ensures.cause.kept ∙ c.in-Ok.ensures.cause.kept) (c.in-Ok-create.ensures.cause.other
    ∙ c.in-Ok.ensures.cause.other)
    (has_first _ _ c.requires _ _ _ _ (both_made _ _ c.requires _ _ _ c.in-Ok.ensures.made c.in-Ok-create.ensures.made))
    c.in-Err-append_all.ensures.cause refl

pub returns-in-Ok-append_all-2-clause-whole : goal.returns-in-Ok-append_all-2-clause-whole
returns-in-Ok-append_all-2-clause-whole g c =
    text_grows _ _ c.requires _ _ _ _ _ _
    (sound_grows _ _ c.requires _ _ _ _ _ _ (both_made _ _ c.requires _ _ _ c.in-Ok.ensures.made c.in-Ok-create.ensures.made) c.in-Ok-append_all.ensures.all)
    c.in-Ok-append_all-2.ensures.all

pub returns-in-Err-append_all-2-clause-stopped : goal.returns-in-Err-append_all-2-clause-stopped
returns-in-Err-append_all-2-clause-stopped g c =
    text_stopped _ _ c.requires _ _ _ _ _
    (sound_grows _ _ c.requires _ _ _ _ _ _ (both_made _ _ c.requires _ _ _ c.in-Ok.ensures.made c.in-Ok-create.ensures.made) c.in-Ok-append_all.ensures.all)
    c.in-Err-append_all-2.ensures.some

pub returns-in-Err-append_all-2-clause-cause : goal.returns-in-Err-append_all-2-clause-cause
returns-in-Err-append_all-2-clause-cause g c =
    handed_on _ _ _ _ _ _ _ _ _ _
    (c.in-Ok-append_all.ensures.cause.kept ∙ c.in-Ok-create.ensures.cause.kept ∙ c.in-Ok.ensures.cause.kept)
    (c.in-Ok-append_all.ensures.cause.other ∙ c.in-Ok-create.ensures.cause.other ∙ c.in-Ok.ensures.cause.other)
    (has_second _ _ c.requires _ _ _ _
    (sound_grows _ _ c.requires _ _ _ _ _ _ (both_made _ _ c.requires _ _ _ c.in-Ok.ensures.made c.in-Ok-create.ensures.made) c.in-Ok-append_all.ensures.all))
    c.in-Err-append_all-2.ensures.cause refl
