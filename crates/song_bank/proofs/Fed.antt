-- What happens by the bytes of a whole SysEx message that an event feeds to its track's reader, whatever was fed before.
use Rattle.std.proofs.Common.{◌≡◌, ◌≢◌, ℕ, ◌+◌, ◌<◌, ◌≤◌, List, [], ◌∷◌, ◌++◌, length, Bool, true, false, refl, ap, sym, ◌∙◌, subst, arith, append_assoc}
use Rattle.std.proofs.Common.{append-nil, lt-ltb}
use Rattle.std.specs.Prelude.{Option, Some, None, nat_lt, unwrap_or}
use Rattle.velocity_map.specs.declared.curve.Curve.TheVariants.{Linear}
use Rattle.command_set.specs.Message.{command_of}
use Rattle.midi_stream.specs.declared.message.MidiMessage.{MidiMessage}
use Rattle.midi_stream.specs.declared.state.ParserState.TheVariants.{InSysEx}
use Rattle.midi_stream.specs.Segments.{Segment, clean, segments, last_segment}
use Rattle.midi_stream.specs.Growth.{begun, extended, grown, with_byte, with_status}
use Rattle.midi_stream.specs.Messages.{messages, messages_of, last_sysex, sysex_at_end, sysex_message}
use Rattle.midi_stream.specs.Standing.{Answers, IsSysEx}
use Rattle.midi_stream.specs.Ended.{EndedMessage, ended_message, with_bytes}
use Rattle.midi_stream.proofs.Ended.{ended_is}
use Rattle.midi_stream.proofs.Ends.{last_status, last_extended}
use Rattle.midi_stream.proofs.Cuts.{segments_byte}
use Rattle.midi_stream.proofs.ByteEffects.{answer_none, answer_sysex_data, answer_end, bytes_at_end}
use Rattle.midi_file.specs.Track.{TrackOutcome, message_outcomes, ended_outcomes, bytes_outcomes}
use Rattle.song_bank.specs.Sound.{AreData}

abbrev parts_of : List ℕ → List Segment
parts_of stream = segments (clean stream)

-- the stream ends within a SysEx message that has these data bytes so far
pub record IsOpen (stream held : List ℕ) : Type 0 where
  pub status : (last_segment (parts_of stream)).status ≡ 240
  pub bytes : (last_segment (parts_of stream)).data_bytes ≡ held

pub open_first : (stream : List ℕ) → IsOpen (stream ++ 240 ∷ []) []
open_first stream =
    let parts : parts_of (stream ++ 240 ∷ []) ≡ with_status (parts_of stream) 240 = segments_byte stream 240 refl in
    let last : last_segment (parts_of (stream ++ 240 ∷ [])) ≡ begun 240 = ap last_segment parts ∙ last_status (parts_of stream) 240 in
    record { status = ap (λ (s : Segment). s.status) last; bytes = ap (λ (s : Segment). s.data_bytes) last }

with_data : (parts : List Segment) (byte : ℕ) → byte < 128 → with_byte parts byte ≡ extended parts byte
with_data parts byte low = rw (lt-ltb byte 128 low) refl

data_parts : (stream : List ℕ) (byte : ℕ) → byte < 128 → parts_of (stream ++ byte ∷ []) ≡ extended (parts_of stream) byte
data_parts stream byte low = segments_byte stream byte (lt-ltb byte 248 (omega arith)) ∙ with_data (parts_of stream) byte low

pub open_more : (stream held : List ℕ) (byte : ℕ) → IsOpen stream held → byte < 128 → IsOpen (stream ++ byte ∷ []) (held ++ byte ∷ [])
open_more stream held byte open_ low =
    let last : last_segment (parts_of (stream ++ byte ∷ [])) ≡ grown (last_segment (parts_of stream)) byte =
    ap last_segment (data_parts stream byte low) ∙ last_extended (parts_of stream) byte (let s = open_.status in omega arith) in
    record {
      status = ap (λ (s : Segment). s.status) last ∙ open_.status;
      bytes = ap (λ (s : Segment). s.data_bytes) last ∙ ap (λ (bs : List ℕ). bs ++ byte ∷ []) open_.bytes;
    }

is_sysex : (segment : Segment) → segment.status ≡ 240 → (count : ℕ) × ((kept : List ℕ) × IsSysEx count kept segment)
is_sysex segment is = (_, (_, record { status = is; so_many = refl; first = refl }))

-- its first byte, and each data byte, ends no message
first_ends : (stream : List ℕ) → Answers None (messages stream) (messages (stream ++ 240 ∷ []))
unfolding messages
first_ends stream = ap messages_of (segments_byte stream 240 refl) ∙ answer_none (parts_of stream) 240 (λ e. λ f. absurd (omega arith))

data_ends : (stream held : List ℕ) (byte : ℕ) → IsOpen stream held → byte < 128 → Answers None (messages stream) (messages (stream ++ byte ∷ []))
unfolding messages
data_ends stream held byte open_ low =
    let s = is_sysex (last_segment (parts_of stream)) open_.status in
    ap messages_of (data_parts stream byte low) ∙ answer_sysex_data (InSysEx s.0) s.0 s.1.0 (parts_of stream) byte refl s.1.1

-- its last byte ends it
last_ends : (stream held : List ℕ) → IsOpen stream held → Answers (Some (sysex_message (length held + 2))) (messages stream) (messages (stream ++ 247 ∷ []))
unfolding messages
last_ends stream held open_ =
    let s = is_sysex (last_segment (parts_of stream)) open_.status in
    ap messages_of (segments_byte stream 247 refl) ∙ answer_end s.0 s.1.0 (parts_of stream) 247 refl s.1.1
    ∙ ap (λ (bs : List ℕ). messages_of (parts_of stream) ++ sysex_message (length bs + 2) ∷ []) open_.bytes

last_bytes : (stream held : List ℕ) → IsOpen stream held → last_sysex (stream ++ 247 ∷ []) ≡ Some (240 ∷ held ++ 247 ∷ [])
unfolding last_sysex
last_bytes stream held open_ =
    let s = is_sysex (last_segment (parts_of stream)) open_.status in
    ap sysex_at_end (segments_byte stream 247 refl) ∙ bytes_at_end s.0 s.1.0 (parts_of stream) 247 refl s.1.1
    ∙ ap (λ (bs : List ℕ). Some (240 ∷ bs ++ 247 ∷ [])) open_.bytes

one_fed : (tick at : ℕ) (before : List ℕ) (byte : ℕ) (bytes : List ℕ)
    → bytes_outcomes tick at before (byte ∷ bytes) ≡ ended_outcomes tick at (ended_message before byte) ++ bytes_outcomes tick at (before ++ byte ∷ []) bytes
unfolding bytes_outcomes
one_fed tick at before byte bytes = refl

none_fed : (tick at : ℕ) (before : List ℕ) → bytes_outcomes tick at before [] ≡ []
unfolding bytes_outcomes
none_fed tick at before = refl

no_end : (tick at : ℕ) (before : List ℕ) (byte : ℕ) (bytes : List ℕ) → Answers None (messages before) (messages (before ++ byte ∷ []))
    → bytes_outcomes tick at before (byte ∷ bytes) ≡ bytes_outcomes tick at (before ++ byte ∷ []) bytes
no_end tick at before byte bytes answers =
    one_fed tick at before byte bytes
    ∙ ap (λ (o : Option EndedMessage). ended_outcomes tick at o ++ bytes_outcomes tick at (before ++ byte ∷ []) bytes) (ended_is None before byte answers)

rest_fed : (tick at : ℕ) (before held more : List ℕ) → IsOpen before held → AreData more
    → bytes_outcomes tick at before (more ++ 247 ∷ [])
    ≡ message_outcomes tick at (command_of (sysex_message (length (held ++ more) + 2)) (240 ∷ (held ++ more) ++ 247 ∷ []) Linear)
rest_fed tick at before held [] open_ are =
    one_fed tick at before 247 []
    ∙ ap (λ (os : List TrackOutcome). ended_outcomes tick at (ended_message before 247) ++ os) (none_fed tick at (before ++ 247 ∷ []))
    ∙ append-nil (ended_outcomes tick at (ended_message before 247))
    ∙ ap (ended_outcomes tick at) (ended_is (Some (sysex_message (length held + 2))) before 247 (last_ends before held open_))
    ∙ ap (λ (kept : Option (List ℕ)). message_outcomes tick at (command_of (sysex_message (length held + 2)) (unwrap_or kept []) Linear))
    (last_bytes before held open_)
    ∙ ap (λ (bs : List ℕ). message_outcomes tick at (command_of (sysex_message (length bs + 2)) (240 ∷ bs ++ 247 ∷ []) Linear)) (sym (append-nil held))
rest_fed tick at before held (byte ∷ more) open_ are =
    no_end tick at before byte (more ++ 247 ∷ []) (data_ends before held byte open_ are.0)
    ∙ rest_fed tick at (before ++ byte ∷ []) (held ++ byte ∷ []) more (open_more before held byte open_ are.0) are.1
    ∙ ap (λ (bs : List ℕ). message_outcomes tick at (command_of (sysex_message (length bs + 2)) (240 ∷ bs ++ 247 ∷ []) Linear))
    (append_assoc held (byte ∷ []) more)

pub sysex_fed : (tick at : ℕ) (before held : List ℕ) → AreData held
    → bytes_outcomes tick at before (240 ∷ held ++ 247 ∷ []) ≡ message_outcomes tick at
    (command_of (sysex_message (length held + 2)) (240 ∷ held ++ 247 ∷ []) Linear)
sysex_fed tick at before held are =
    no_end tick at before 240 (held ++ 247 ∷ []) (first_ends before) ∙ rest_fed tick at (before ++ 240 ∷ []) [] held (open_first before) are
