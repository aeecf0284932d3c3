use Rattle.std.proofs.Common.{◌∙◌, sym}
use Rattle.script_read.proofs.Plans.{midi_settled}
use Rattle.script_read.proofs.read.read_any.Goals as goal

pub returns-then-is_midi_file : goal.returns-then-is_midi_file
returns-then-is_midi_file g c =
    midi_settled c.read_midi_file.result c.args.bounds.room c.args.bounds.blocks c.args.bytes.now
    (sym c.is_stream.ensures ∙ c.if-is_stream.false) (sym c.is_midi_file.ensures ∙ c.if-is_midi_file.true) c.read_midi_file.ensures
