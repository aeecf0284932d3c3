use Rattle.std.proofs.Common.{inl, refl}
use Rattle.midi_stream.specs.FedStream.{Reads}
use Rattle.midi_stream.proofs.reader.MidiReader.new.Goals as goal

pub returns : goal.returns
unfolding Reads
returns c = record { closed = inl refl; bytes = tt }
