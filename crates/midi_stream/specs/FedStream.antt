-- How a reader stands for the stream that it was fed.
use Rattle.std.specs.Prelude.{ℕ, List}
use Rattle.midi_stream.specs.declared.reader.MidiReader.{MidiReader}
use Rattle.midi_stream.specs.Segments.{clean, segments}
use Rattle.midi_stream.specs.Standing.{StandsAt}

-- the reader has been fed the stream
unfoldable pub Reads : MidiReader → List ℕ → Type 0
Reads reader stream = StandsAt reader.state reader.kept.value.items (segments (clean stream))
