-- The messages of streams of MIDI bytes, each with its bytes.
use Rattle.std.specs.Prelude.{ℕ, List, [], ◌∷◌, ◌++◌, Option, Some, None}
use Rattle.midi_stream.specs.Ended.{EndedMessage, ended_message}

-- the message, where there is one
abbrev pub listed : Option EndedMessage → List EndedMessage
listed None = []
listed (Some ended) = ended ∷ []

-- the messages that end in bytes after the stream before them, in the order of their ends
unfoldable pub ended_after : List ℕ → List ℕ → List EndedMessage
ended_after before [] = []
ended_after before (byte ∷ bytes) = listed (ended_message before byte) ++ ended_after (before ++ byte ∷ []) bytes

-- the messages of a stream
abbrev pub ended_messages : List ℕ → List EndedMessage
ended_messages stream = ended_after [] stream
