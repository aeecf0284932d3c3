-- One more byte of a stream.
use Rattle.std.proofs.lemmas.Grind.{take_at_read}
use Rattle.std.proofs.Common.{◌≡◌, ℕ, ◌+◌, ◌<◌, ◌≤◌, take, get_or, List, [], ◌∷◌, ◌++◌, length, refl, ap, sym, ◌∙◌, arith, append_assoc, append-nil}
use Rattle.std.proofs.Common.{length-append, if◌then◌else◌}
use Rattle.std.specs.Prelude.{Option, Some, None, unwrap_or, IfSome}
use Rattle.midi_stream.specs.declared.message.MidiMessage.{MidiMessage}
use Rattle.midi_stream.specs.Messages.{messages, last_sysex}
use Rattle.midi_stream.specs.Ranges.{InRange}
use Rattle.midi_stream.specs.Standing.{Answers, HasBytes}
use Rattle.velocity_map.specs.declared.curve.Curve.{Curve}
use Rattle.command_set.specs.Message.{command_of}
use Rattle.command_set.proofs.KeptBytes.{told_same}
use Rattle.script_outcome.specs.declared.fault.Place.{Place}
use Rattle.midi_stream.specs.Ended.{ended_message}
use Rattle.midi_stream.proofs.Ended.{ended_is}
use Rattle.script_outcome.specs.Stream.{begins, begun_after, begun_at}
use Rattle.script_outcome.specs.Outcomes.{Outcome, message_outcomes, ended_outcomes, fed_outcomes}

-- what a message that the reader answers tells is what comes of its last byte
pub message_is_ended : (m : MidiMessage) (before : List ℕ) (byte : ℕ) (sysex : List ℕ) (curve : Curve) (at : Place) (block : ℕ)
    → Answers (Some m) (messages before) (messages (before ++ byte ∷ [])) → InRange m → HasBytes m (last_sysex (before ++ byte ∷ []))
    → IfSome (last_sysex (before ++ byte ∷ [])) (λ text. length text ≤ 5000 → sysex ≡ text)
    → message_outcomes at block (command_of m sysex curve) ≡ ended_outcomes at block curve (ended_message before byte)
message_is_ended m before byte sysex curve at block answers range has same =
    ap (message_outcomes at block) (told_same m (last_sysex (before ++ byte ∷ [])) sysex curve range has same)
    ∙ ap (ended_outcomes at block curve) (sym (ended_is (Some m) before byte answers))

pub none_ended : (before : List ℕ) (byte : ℕ) (curve : Curve) (at : Place) (block : ℕ)
    → Answers None (messages before) (messages (before ++ byte ∷ [])) → ended_outcomes at block curve (ended_message before byte) ≡ []
none_ended before byte curve at block answers = ap (ended_outcomes at block curve) (ended_is None before byte answers)

-- what comes of one more byte
pub fed_more : (place_of : List ℕ → Place) (block : ℕ) (curve : Curve) (before xs : List ℕ) (byte : ℕ)
    → fed_outcomes place_of block curve before (xs ++ byte ∷ [])
    ≡ fed_outcomes place_of block curve before xs ++ ended_outcomes (place_of (before ++ xs)) block curve (ended_message (before ++ xs) byte)
unfolding fed_outcomes
fed_more place_of block curve before [] byte = rw (append-nil before) (append-nil (ended_outcomes (place_of before) block curve (ended_message before byte)))
fed_more place_of block curve before (x ∷ xs) byte =
    let first : List Outcome = ended_outcomes (place_of before) block curve (ended_message before x) in
    let later = fed_more place_of block curve (before ++ x ∷ []) xs byte in
    let join : (before ++ x ∷ []) ++ xs ≡ before ++ x ∷ xs = append_assoc before (x ∷ []) xs in
    ap (λ (os : List Outcome). first ++ os) (later ∙ ap (λ (s : List ℕ). fed_outcomes place_of block curve (before ++ x ∷ []) xs
    ++ ended_outcomes (place_of s) block curve (ended_message s byte)) join)
    ∙ sym (append_assoc first _ _)

begun_more_after : (before xs : List ℕ) (start byte : ℕ)
    → begun_after before start (xs ++ byte ∷ []) ≡ (if begins (before ++ xs) byte then length (before ++ xs) else begun_after before start xs)
unfolding begun_after
begun_more_after before [] start byte = rw (append-nil before) refl
begun_more_after before (x ∷ xs) start byte =
    let join : (before ++ x ∷ []) ++ xs ≡ before ++ x ∷ xs = append_assoc before (x ∷ []) xs in
    let next : ℕ = if begins before x then length before else start in
    begun_more_after (before ++ x ∷ []) xs next byte
    ∙ ap (λ (s : List ℕ). if begins s byte then length s else begun_after (before ++ x ∷ []) next xs) join

-- where the last message begins, after one more byte
pub begun_more : (xs : List ℕ) (byte : ℕ) → begun_at (xs ++ byte ∷ []) ≡ (if begins xs byte then length xs else begun_at xs)
unfolding begun_at
begun_more xs byte = begun_more_after [] xs 0 byte

-- one more byte of bytes
pub take_next : (bytes : List ℕ) (at byte : ℕ) → at < length bytes → get_or bytes at 0 ≡ byte → take (at + 1) bytes ≡ take at bytes ++ byte ∷ []
take_next bytes at byte below is = (take_at_read bytes at 0 below).1 ∙ ap (λ (b : ℕ). take at bytes ++ b ∷ []) is
