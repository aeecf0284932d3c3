-- The message that ends with a byte of a stream, with its bytes.
use Rattle.std.specs.Prelude.{ℕ, List, [], ◌∷◌, ◌++◌, length, Option, option_map, slice_get, unwrap_or}
use Rattle.midi_stream.specs.declared.message.MidiMessage.{MidiMessage}
use Rattle.midi_stream.specs.Messages.{messages, last_sysex}

-- a message that has ended, with its bytes where it is a SysEx one
pub record EndedMessage : Type 0 where
  pub message : MidiMessage
  pub bytes : List ℕ

-- a message with the bytes of the SysEx message that ended, if one did
abbrev pub with_bytes : Option (List ℕ) → MidiMessage → EndedMessage
with_bytes kept m = record { message = m; bytes = unwrap_or kept [] }

-- the message that a stream gains with one more byte: none where its messages stay
unfoldable pub ended_message : List ℕ → ℕ → Option EndedMessage
ended_message before byte =
    option_map (with_bytes (last_sysex (before ++ byte ∷ []))) (slice_get (messages (before ++ byte ∷ [])) (length (messages before)))
