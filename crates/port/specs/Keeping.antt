-- What a port keeps, and how it stands for the bytes that it used.
use Rattle.std.specs.Prelude.{ℕ, ◌≡◌, List, [], ◌∷◌, ◌++◌, map, Option, Some, None}
use Rattle.midi_stream.specs.declared.message.MidiMessage.{MidiMessage}
use Rattle.midi_stream.specs.declared.reader.MidiReader.{MidiReader}
use Rattle.midi_stream.specs.Messages.{messages, last_sysex}
use Rattle.midi_stream.specs.Standing.{HasBytes}
use Rattle.midi_stream.specs.FedStream.{Reads}
use Rattle.velocity_map.specs.declared.curve.Curve.{Curve}
use Rattle.command_set.specs.Message.{MessageOutcome, Yields, command_of}
use Rattle.port.specs.declared.kept.Kept.{Kept}
use Rattle.port.specs.declared.kept.Kept.TheVariants as kept
use Rattle.port.specs.declared.fed.PortStop.{PortStop}
use Rattle.port.specs.declared.fed.PortStop.TheVariants.{All, Full, Memory}
use Rattle.port.specs.Outcomes.{exclusive_of, ended_messages, outcomes}

-- the outcome of what a port keeps, with the bytes of the last system exclusive message
abbrev pub kept_outcomes : Curve → List ℕ → Option Kept → List MessageOutcome
kept_outcomes curve bytes None = []
kept_outcomes curve bytes (Some (kept.Command command)) = Yields command ∷ []
kept_outcomes curve bytes (Some (kept.Message message)) = command_of message bytes curve ∷ []

-- the last message of a stream, with the bytes that the stream ends with
pub record IsLast (message : MidiMessage) (stream : List ℕ) : Type 0 where
  pub earlier : List MidiMessage
  pub last : messages stream ≡ earlier ++ message ∷ []
  pub bytes : HasBytes message (last_sysex stream)

-- a message that is kept is the last one
abbrev pub KeepsLast : Option Kept → List ℕ → Type 0
KeepsLast None stream = Unit {0}
KeepsLast (Some (kept.Command command)) stream = Unit {0}
KeepsLast (Some (kept.Message message)) stream = IsLast message stream

-- what is kept where a feed stops: nothing once all bytes were used, a command where the line was full, a message where memory was wanted
abbrev pub KeepsAt : PortStop → Option Kept → Type 0
KeepsAt All None = Unit {0}
KeepsAt All (Some k) = ⊥
KeepsAt Full None = ⊥
KeepsAt Full (Some (kept.Command command)) = Unit {0}
KeepsAt Full (Some (kept.Message message)) = ⊥
KeepsAt Memory None = ⊥
KeepsAt Memory (Some (kept.Command command)) = ⊥
KeepsAt Memory (Some (kept.Message message)) = Unit {0}

-- A port with this reader and this curve has used the bytes of the stream: what comes of its messages was done, but for what is kept.
-- The messages with their bytes are the messages of the stream.
pub record HasUsed (reader : MidiReader) (curve : Curve) (keeps : Option Kept) (done : List MessageOutcome) (stream : List ℕ) : Type 0 where
  pub reads : Reads reader stream
  pub received : map (λ h. h.message) (ended_messages stream) ≡ messages stream
  pub tells : outcomes curve stream ≡ done ++ kept_outcomes curve (exclusive_of stream) keeps
  pub last : KeepsLast keeps stream
