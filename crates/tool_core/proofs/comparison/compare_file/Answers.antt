use Rattle.std.proofs.Common.{sym, ◌∙◌, ap}
use Rattle.std.specs.Prelude.{Option}
use Rattle.outside.specs.Files.{Files, file_of}
use Rattle.outside.specs.Faults.{more_by}
use Rattle.take_files.specs.Files.{wav}
use Rattle.tool_core.proofs.Sounds.{length-wav}
use Rattle.tool_core.proofs.comparison.compare_file.Goals as goal

pub returns-in-Ok-measure-clause-compared : goal.returns-in-Ok-measure-clause-compared
returns-in-Ok-measure-clause-compared g c file is =
    c.offset_of.ensures file (wav c.args.playback.journal c.args.blocks) (sym (length-wav c.args.playback.journal c.args.blocks))
    (c.in-Ok-measure.ensures.length file (ap (λ (o : Option Files). file_of o c.args.name.now) c.in-Ok.ensures.files ∙ is) (c.in-Ok.ensures.read file is))
    (c.in-Ok.ensures.compared file is)

pub returns-in-Ok-measure-clause-given : goal.returns-in-Ok-measure-clause-given
returns-in-Ok-measure-clause-given g c = λ file is.
    c.in-Ok-measure.ensures.given _ c.in-Ok.ensures.given
    ∙ ap (more_by (g.S.Shelf.given c.args.shelf.now))
    (c.in-Ok-measure.ensures.length file (ap (λ (o : Option Files). file_of o c.args.name.now) c.in-Ok.ensures.files ∙ is) (c.in-Ok.ensures.read file is))
