-- For private functions and proofs: what a byte does.
use Rattle.std.specs.Prelude.{ℕ, ◌≡◌, true, List, IfSome}
use Rattle.midi_stream.specs.declared.state.ParserState.{ParserState}
use Rattle.midi_stream.specs.declared.byte_effect.ByteEffect.{ByteEffect}
use Rattle.midi_stream.specs.ParserState.{holds_data}
use Rattle.midi_stream.specs.Segments.{Segment}
use Rattle.midi_stream.specs.Messages.{messages_of, sysex_at_end}
use Rattle.midi_stream.specs.Ranges.{InRange}
use Rattle.midi_stream.specs.Standing.{StandsAt, Answers, HasBytes, kept_with}

-- The effect of one more byte on a state, where `grow` is what this byte does to the segments. From all segments for which the
-- state stands: the new state stands for the grown ones, and the answer is what is new among their messages.
pub record Advances (before : ParserState) (byte : ℕ) (grow : List Segment → ℕ → List Segment) (effect : ByteEffect) : Type 0 where
  pub stands : (kept : List ℕ) (parts : List Segment) → StandsAt before kept parts
      → StandsAt effect.state (kept_with before kept byte) (grow parts byte)
  pub answer : (kept : List ℕ) (parts : List Segment) → StandsAt before kept parts
      → Answers effect.message (messages_of parts) (messages_of (grow parts byte))
  pub bytes : (kept : List ℕ) (parts : List Segment) → StandsAt before kept parts
      → IfSome effect.message (λ message. HasBytes message (sysex_at_end (grow parts byte)))
  pub range : IfSome effect.message InRange
  pub holds : holds_data effect.state ≡ true
