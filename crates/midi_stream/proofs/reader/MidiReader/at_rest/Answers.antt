use Rattle.std.proofs.Common.{◌∙◌}
use Rattle.midi_stream.specs.Segments.{clean, segments}
use Rattle.midi_stream.specs.Messages.{is_unfinished}
use Rattle.midi_stream.specs.FedStream.{Reads}
use Rattle.midi_stream.proofs.Rests.{rests_is}
use Rattle.midi_stream.proofs.reader.MidiReader.at_rest.Goals as goal

pub returns : goal.returns
unfolding Reads is_unfinished
returns c stream h = c.is_at_rest.ensures ∙ rests_is c.args.self.now.state c.args.self.now.kept.value.items (segments (clean stream)) h
