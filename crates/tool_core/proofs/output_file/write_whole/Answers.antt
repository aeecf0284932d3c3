use Rattle.std.proofs.Common.{refl, ◌∙◌, arith}
use Rattle.outside.proofs.Shelves.{handed_on}
use Rattle.tool_core.proofs.Writings.{begun_at_create, begun_at_append, begun_whole, written_whole, has_created, has_written}
use Rattle.tool_core.proofs.output_file.write_whole.Goals as goal

pub returns-in-Err-clause-begun : goal.returns-in-Err-clause-begun
returns-in-Err-clause-begun g c = begun_at_create _ _ _ _ c.in-Err.ensures.failed

pub returns-in-Err-append_all-clause-begun : goal.returns-in-Err-append_all-clause-begun
returns-in-Err-append_all-clause-begun g c = begun_at_append _ _ _ _ _ c.in-Ok.ensures.made c.in-Err-append_all.ensures.some

pub returns-in-Err-append_all-clause-cause : goal.returns-in-Err-append_all-clause-cause
returns-in-Err-append_all-clause-cause g c =
    handed_on _ _ _ _ _ _ _ _ _ _ c.in-Ok.ensures.cause.kept c.in-Ok.ensures.cause.other (has_created _ _ _ c.in-Ok.ensures.made)
    c.in-Err-append_all.ensures.cause refl

pub returns-in-Err-append_all-clause-held_of_others : goal.returns-in-Err-append_all-clause-held_of_others
returns-in-Err-append_all-clause-held_of_others g c = λ other ne. omega (arith, c.in-Ok.ensures.held other ne, c.in-Err-append_all.ensures.held other ne)

pub returns-in-Ok-write_out-clause-whole : goal.returns-in-Ok-write_out-clause-whole
returns-in-Ok-write_out-clause-whole g c = c.in-Ok-write_out.ensures.files ∙ written_whole _ _ _ _ _ c.in-Ok.ensures.made c.in-Ok-append_all.ensures.all

pub returns-in-Ok-write_out-clause-held_of_others : goal.returns-in-Ok-write_out-clause-held_of_others
returns-in-Ok-write_out-clause-held_of_others g c = λ other ne.
    omega (arith, c.in-Ok.ensures.held other ne, c.in-Ok-append_all.ensures.held other ne, c.in-Ok-write_out.ensures.held other ne)

pub returns-in-Err-write_out-clause-begun : goal.returns-in-Err-write_out-clause-begun
returns-in-Err-write_out-clause-begun g c =
    begun_whole _ _ _ _ (c.in-Err-write_out.ensures.files ∙ written_whole _ _ _ _ _ c.in-Ok.ensures.made c.in-Ok-append_all.ensures.all)

pub returns-in-Err-write_out-clause-cause : goal.returns-in-Err-write_out-clause-cause
returns-in-Err-write_out-clause-cause g c =
    handed_on _ _ _ _ _ _ _ _ _ _ (c.in-Ok-append_all.ensures.cause.kept ∙ c.in-Ok.ensures.cause.kept) (c.in-Ok-append_all.ensures.cause.other
    ∙ c.in-Ok.ensures.cause.other)
    (has_written _ _ _ _ (written_whole _ _ _ _ _ c.in-Ok.ensures.made c.in-Ok-append_all.ensures.all)) c.in-Err-write_out.ensures.cause refl

pub returns-in-Err-write_out-clause-held_of_others : goal.returns-in-Err-write_out-clause-held_of_others
returns-in-Err-write_out-clause-held_of_others g c = λ other ne.
    omega (arith, c.in-Ok.ensures.held other ne, c.in-Ok-append_all.ensures.held other ne, c.in-Err-write_out.ensures.held other ne)
