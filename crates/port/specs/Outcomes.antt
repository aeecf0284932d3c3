-- What comes of the messages of a stream of MIDI bytes, in order.
use Rattle.std.specs.Prelude.{ℕ, Bool, true, false, List, [], ◌∷◌, ◌++◌, map, Option, Some, None, unwrap_or}
use Rattle.midi_stream.specs.Messages.{last_sysex}
use Rattle.midi_stream.specs.Ended.{EndedMessage, ended_message}
use Rattle.velocity_map.specs.declared.curve.Curve.{Curve}
use Rattle.command_set.specs.Command.{CommandData}
use Rattle.command_set.specs.Message.{MessageOutcome, Yields, PassedOver, Overlong, Faulty, command_of}

-- the bytes of the system exclusive message that the last status byte of a stream ended, none where it ended none
abbrev pub exclusive_of : List ℕ → List ℕ
exclusive_of stream = unwrap_or (last_sysex stream) []

-- a message as a list
abbrev pub listed : Option EndedMessage → List EndedMessage
listed None = []
listed (Some m) = m ∷ []

-- the messages that a stream gains with more bytes
unfoldable pub ended_after : List ℕ → List ℕ → List EndedMessage
ended_after before [] = []
ended_after before (byte ∷ bytes) = listed (ended_message before byte) ++ ended_after (before ++ byte ∷ []) bytes

-- the messages of a stream, each with its bytes where it is a system exclusive one
abbrev pub ended_messages : List ℕ → List EndedMessage
ended_messages stream = ended_after [] stream

-- what comes of a message with its bytes
abbrev pub ended_outcome : Curve → EndedMessage → MessageOutcome
ended_outcome curve ended = command_of ended.message ended.bytes curve

-- what comes of the messages of a stream
abbrev pub outcomes : Curve → List ℕ → List MessageOutcome
outcomes curve stream = map (ended_outcome curve) (ended_messages stream)

-- the commands among the outcomes
abbrev pub commands_in : List MessageOutcome → List CommandData
commands_in [] = []
commands_in (Yields command ∷ later) = command ∷ commands_in later
commands_in (PassedOver ∷ later) = commands_in later
commands_in (Overlong count ∷ later) = commands_in later
commands_in (Faulty fault ∷ later) = commands_in later

abbrev pub is_passed_over : MessageOutcome → Bool
is_passed_over (Yields command) = false
is_passed_over PassedOver = true
is_passed_over (Overlong count) = false
is_passed_over (Faulty fault) = false

-- a system exclusive message that is too long, or that has a fault
abbrev pub is_refused : MessageOutcome → Bool
is_refused (Yields command) = false
is_refused PassedOver = false
is_refused (Overlong count) = true
is_refused (Faulty fault) = true
