-- The events of a stream's messages, one more byte at a time.
use Rattle.std.proofs.Common.{◌≡◌, ℕ, ◌+◌, ◌<◌, ◌≤◌, List, [], ◌∷◌, ◌++◌, length, take, get_or, refl, ap, sym, ◌∙◌, arith, append_assoc, append-nil, Bool, true}
use Rattle.std.proofs.Common.{false, cond, subst, ltb-true}
use Rattle.std.specs.Prelude.{Option, Some, None, unwrap_or, IfSome, ◌==◌, ◌&&◌}
use Rattle.std.specs.List.{flat_map}
use Rattle.std.proofs.lemmas.Grind.{flat_map-append}
use Rattle.midi_stream.specs.declared.message.MidiMessage.{MidiMessage}
use Rattle.midi_stream.specs.declared.message.MidiMessage.TheVariants.{NoteOff, NoteOn, KeyPressure, Control, Program, ChannelPressure, Bend, SysEx}
use Rattle.midi_stream.specs.declared.message.MidiMessage.TheVariants.{SysExTooLong}
use Rattle.midi_stream.specs.Segments.{Segment, clean, is_data, leading_data, segments}
use Rattle.midi_stream.specs.Messages.{messages, last_sysex, sysex_at_end}
use Rattle.midi_stream.specs.Ranges.{InRange}
use Rattle.midi_stream.specs.Standing.{Answers, HasBytes}
use Rattle.midi_stream.specs.Ended.{EndedMessage, ended_message}
use Rattle.midi_stream.proofs.Ended.{ended_is}
use Rattle.script_outcome.proofs.EndedMessages.{take_next}
use Rattle.song_bank.specs.Messages.{ended_after, listed}
use Rattle.song_bank.specs.Event.{ended_event, message_event}
use Rattle.song_bank.specs.Sound.{AreData, AreSound, IsFramed, IsWhole}

-- the messages of one more byte
pub ended_more : (before xs : List ℕ) (byte : ℕ) → ended_after before (xs ++ byte ∷ []) ≡ ended_after before xs ++ listed (ended_message (before ++ xs) byte)
unfolding ended_after
ended_more before [] byte = rw (append-nil before) (append-nil (listed (ended_message before byte)))
ended_more before (x ∷ xs) byte =
    let first : List EndedMessage = listed (ended_message before x) in
    let join : (before ++ x ∷ []) ++ xs ≡ before ++ x ∷ xs = append_assoc before (x ∷ []) xs in
    ap (λ (es : List EndedMessage). first ++ es)
    (ended_more (before ++ x ∷ []) xs byte ∙ ap (λ (s : List ℕ). ended_after (before ++ x ∷ []) xs ++ listed (ended_message s byte)) join)
    ∙ sym (append_assoc first _ _)

none_yet : ended_after [] [] ≡ []
unfolding ended_after
none_yet = refl

-- the event of what a reader keeps of a message is that of the message's bytes
event_told : (m : MidiMessage) (kept : Option (List ℕ)) (sysex : List ℕ) → InRange m → HasBytes m kept → IfSome kept (λ text. length text ≤ 5000 → sysex ≡ text)
    → message_event m sysex ≡ message_event m (unwrap_or kept [])
unfolding message_event
event_told (NoteOff channel key) kept sysex range has same = refl
event_told (NoteOn channel key velocity) kept sysex range has same = refl
event_told (KeyPressure channel key value) kept sysex range has same = refl
event_told (Control channel number value) kept sysex range has same = refl
event_told (Program channel number) kept sysex range has same = refl
event_told (ChannelPressure channel value) kept sysex range has same = refl
event_told (Bend channel value) kept sysex range has same = refl
event_told (SysEx count) None sysex range has same = absurd has
event_told (SysEx count) (Some text) sysex range has same = ap (λ (bytes : List ℕ). message_event (SysEx count) bytes) (same (omega arith))
event_told (SysExTooLong count) kept sysex range has same = refl

pub some_event : (m : MidiMessage) (before : List ℕ) (byte : ℕ) (sysex : List ℕ)
    → Answers (Some m) (messages before) (messages (before ++ byte ∷ [])) → InRange m → HasBytes m (last_sysex (before ++ byte ∷ []))
    → IfSome (last_sysex (before ++ byte ∷ [])) (λ text. length text ≤ 5000 → sysex ≡ text)
    → message_event m sysex ≡ flat_map ended_event (listed (ended_message before byte))
some_event m before byte sysex answers range has same =
    event_told m (last_sysex (before ++ byte ∷ [])) sysex range has same
    ∙ sym (append-nil (message_event m (unwrap_or (last_sysex (before ++ byte ∷ [])) [])))
    ∙ ap (λ (o : Option EndedMessage). flat_map ended_event (listed o)) (sym (ended_is (Some m) before byte answers))

pub no_event : (before : List ℕ) (byte : ℕ) → Answers None (messages before) (messages (before ++ byte ∷ []))
    → flat_map ended_event (listed (ended_message before byte)) ≡ []
no_event before byte answers = ap (λ (o : Option EndedMessage). flat_map ended_event (listed o)) (ended_is None before byte answers)

abbrev pub events_after : List ℕ → List ℕ
events_after bytes = flat_map ended_event (ended_after [] bytes)

events_more : (stream : List ℕ) (k byte : ℕ) → k < length stream → get_or stream k 0 ≡ byte
    → events_after (take (k + 1) stream) ≡ events_after (take k stream) ++ flat_map ended_event (listed (ended_message (take k stream) byte))
events_more stream k byte below is =
    ap events_after (take_next stream k byte below is)
    ∙ ap (λ (es : List EndedMessage). flat_map ended_event es) (ended_more [] (take k stream) byte)
    ∙ flat_map-append ended_event (ended_after [] (take k stream)) (listed (ended_message (take k stream) byte))

-- no byte yet
pub no_events : (old : List ℕ) → old ≡ old ++ events_after []
no_events old = sym (ap (λ (es : List EndedMessage). old ++ flat_map ended_event es) none_yet ∙ append-nil old)

-- one more byte
pub events_on : (stream : List ℕ) (k byte : ℕ) (old now new : List ℕ) → k < length stream → get_or stream k 0 ≡ byte
    → now ≡ old ++ events_after (take k stream) → new ≡ now ++ flat_map ended_event (listed (ended_message (take k stream) byte))
    → new ≡ old ++ events_after (take (k + 1) stream)
events_on stream k byte old now new below is was more =
    more ∙ ap (λ (x : List ℕ). x ++ flat_map ended_event (listed (ended_message (take k stream) byte))) was
    ∙ append_assoc old (events_after (take k stream)) _
    ∙ ap (λ (x : List ℕ). old ++ x) (sym (events_more stream k byte below is))

-- ---- sound messages

data_first : (bytes : List ℕ) → AreData (leading_data bytes)
data_first [] = tt
data_first (byte ∷ bytes) = by_test (is_data byte) refl (data_first bytes)
  where
    by_test : (t : Bool) → is_data byte ≡ t → AreData (leading_data bytes) → AreData (cond t (byte ∷ leading_data bytes) [])
    by_test true is later = (ltb-true byte 128 is, later)
    by_test false is later = tt

-- the data bytes of each segment are data bytes
abbrev HaveData : List Segment → Type 0
HaveData [] = Unit {0}
HaveData (s ∷ later) = AreData s.data_bytes × HaveData later

have_data : (bytes : List ℕ) → HaveData (segments bytes)
have_data [] = tt
have_data (byte ∷ bytes) = by_test (is_data byte) (have_data bytes)
  where
    by_test : (t : Bool) → HaveData (segments bytes) → HaveData (cond t (segments bytes) (record { status = byte; data_bytes = leading_data bytes }
        ∷ segments bytes))
    by_test true later = later
    by_test false later = (data_first bytes, later)

-- a SysEx message with data bytes
abbrev IsFrame : Option (List ℕ) → Type 0
IsFrame None = Unit {0}
IsFrame (Some bytes) = (held : List ℕ) × (bytes ≡ 240 ∷ held ++ 247 ∷ []) × AreData held

by_end : (t : Bool) (held : List ℕ) → AreData held → IsFrame (cond t (Some (240 ∷ held ++ 247 ∷ [])) None)
by_end true held are = (held, refl, are)
by_end false held are = tt

frame_at_end : (parts : List Segment) → HaveData parts → IsFrame (sysex_at_end parts)
frame_at_end [] have = tt
frame_at_end (s ∷ []) have = tt
frame_at_end (s ∷ t ∷ []) have = by_end (s.status == 240 && t.status == 247) s.data_bytes have.0
frame_at_end (s ∷ t ∷ u ∷ later) have = frame_at_end (t ∷ u ∷ later) have.1

last_frame : (stream : List ℕ) → IsFrame (last_sysex stream)
unfolding last_sysex
last_frame stream = frame_at_end (segments (clean stream)) (have_data (clean stream))

whole_message : (m : MidiMessage) (kept : Option (List ℕ)) → IsFrame kept → HasBytes m kept → IsWhole m (unwrap_or kept [])
whole_message (NoteOff channel key) kept frame has = tt
whole_message (NoteOn channel key velocity) kept frame has = tt
whole_message (KeyPressure channel key value) kept frame has = tt
whole_message (Control channel number value) kept frame has = tt
whole_message (Program channel number) kept frame has = tt
whole_message (ChannelPressure channel value) kept frame has = tt
whole_message (Bend channel value) kept frame has = tt
whole_message (SysEx count) None frame has = absurd has
whole_message (SysEx count) (Some bytes) frame has = record { held = frame.0; frame = frame.1; so_many = has; are_data = frame.2 }
whole_message (SysExTooLong count) kept frame has = tt

pub some_sound : (m : MidiMessage) (before : List ℕ) (byte : ℕ) → Answers (Some m) (messages before) (messages (before ++ byte ∷ [])) → InRange m
    → HasBytes m (last_sysex (before ++ byte ∷ [])) → AreSound (listed (ended_message before byte))
some_sound m before byte answers range has =
    subst (λ (o : Option EndedMessage). AreSound (listed o)) (sym (ended_is (Some m) before byte answers))
    ((range, whole_message m (last_sysex (before ++ byte ∷ [])) (last_frame (before ++ byte ∷ [])) has), tt)

pub none_sound : (before : List ℕ) (byte : ℕ) → Answers None (messages before) (messages (before ++ byte ∷ [])) → AreSound (listed (ended_message before byte))
none_sound before byte answers = subst (λ (o : Option EndedMessage). AreSound (listed o)) (sym (ended_is None before byte answers)) tt

sound_both : (es fs : List EndedMessage) → AreSound es → AreSound fs → AreSound (es ++ fs)
sound_both [] fs a b = b
sound_both (e ∷ es) fs a b = (a.0, sound_both es fs a.1 b)

pub none_unsound : AreSound (ended_after [] [])
none_unsound = subst AreSound (sym none_yet) tt

pub sound_on : (stream : List ℕ) (k byte : ℕ) → k < length stream → get_or stream k 0 ≡ byte → AreSound (ended_after [] (take k stream))
    → AreSound (listed (ended_message (take k stream) byte)) → AreSound (ended_after [] (take (k + 1) stream))
sound_on stream k byte below is was more =
    subst AreSound (sym (ap (ended_after []) (take_next stream k byte below is) ∙ ended_more [] (take k stream) byte))
    (sound_both (ended_after [] (take k stream)) _ was more)
