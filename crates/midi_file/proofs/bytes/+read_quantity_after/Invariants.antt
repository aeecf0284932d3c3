use Rattle.midi_file.proofs.bytes.+read_quantity_after.Given as goal

abbrev pub decreases-read_quantity_after : goal.decreases-read_quantity_after
decreases-read_quantity_after l = l.more
