-- One more byte of a stream, and what comes of it.
use Rattle.std.proofs.Common.{◌≡◌, ℕ, ◌+◌, ◌≤◌, List, [], ◌∷◌, ◌++◌, length, map, Option, Some, None, refl, ap, sym, ◌∙◌, arith, append_assoc}
use Rattle.std.proofs.Common.{append-nil, length-append}
use Rattle.std.proofs.lemmas.List.{map-append}
use Rattle.std.specs.Prelude.{option_map, unwrap_or, IfSome}
use Rattle.midi_stream.specs.declared.message.MidiMessage.{MidiMessage}
use Rattle.midi_stream.specs.declared.reader.MidiReader.{MidiReader}
use Rattle.midi_stream.specs.Messages.{messages, last_sysex}
use Rattle.midi_stream.specs.Ranges.{InRange}
use Rattle.midi_stream.specs.FedStream.{Reads}
use Rattle.midi_stream.specs.Standing.{Answers, HasBytes}
use Rattle.velocity_map.specs.declared.curve.Curve.{Curve}
use Rattle.command_set.specs.Command.{CommandData}
use Rattle.command_set.specs.Message.{MessageOutcome, Yields, command_of}
use Rattle.command_set.proofs.KeptBytes.{told_same}
use Rattle.command_queue.specs.Ends.{SendView}
use Rattle.port.specs.declared.kept.Kept.{Kept}
use Rattle.port.specs.declared.kept.Kept.TheVariants as kept
use Rattle.port.specs.declared.fed.Fed.{Fed}
use Rattle.port.specs.declared.fed.PortStop.TheVariants.{All}
use Rattle.midi_stream.specs.Ended.{EndedMessage, ended_message, with_bytes}
use Rattle.midi_stream.proofs.Ended.{ended_is}
use Rattle.port.specs.Outcomes.{exclusive_of, listed, ended_after, ended_messages, ended_outcome, outcomes}
use Rattle.port.specs.Feeding.{Handles}
use Rattle.port.specs.Keeping.{HasUsed, IsLast, KeepsLast, kept_outcomes}
use Rattle.port.specs.Handling.{IsDoneOrKept, KeepsThis, KeepsNoMessage}

-- the message of an answer, with these bytes
abbrev one_ended : List ℕ → Option MidiMessage → List EndedMessage
one_ended bytes None = []
one_ended bytes (Some message) = record { message = message; bytes = bytes } ∷ []

one_listed : (r : Option MidiMessage) (kept : Option (List ℕ)) → listed (option_map (with_bytes kept) r) ≡ one_ended (unwrap_or kept []) r
one_listed None kept = refl
one_listed (Some m) kept = refl

-- what one more byte gains is the reader's answer
ended_answer : (r : Option MidiMessage) (before : List ℕ) (byte : ℕ) → Answers r (messages before) (messages (before ++ byte ∷ []))
    → listed (ended_message before byte) ≡ one_ended (exclusive_of (before ++ byte ∷ [])) r
ended_answer r before byte a = ap listed (ended_is r before byte a) ∙ one_listed r (last_sysex (before ++ byte ∷ []))

ended_after_more : (before xs : List ℕ) (byte : ℕ) → ended_after before (xs ++ byte ∷ []) ≡ ended_after before xs ++ listed (ended_message (before ++ xs) byte)
unfolding ended_after
ended_after_more before [] byte = rw (append-nil before) (append-nil (listed (ended_message before byte)))
ended_after_more before (x ∷ xs) byte =
    let first : List EndedMessage = listed (ended_message before x) in
    let later = ended_after_more (before ++ x ∷ []) xs byte in
    let join : (before ++ x ∷ []) ++ xs ≡ before ++ x ∷ xs = append_assoc before (x ∷ []) xs in
    ap (λ (hs : List EndedMessage). first ++ hs) (later ∙ ap (λ (s : List ℕ). ended_after (before ++ x ∷ []) xs ++ listed (ended_message s byte)) join)
    ∙ sym (append_assoc first _ _)

-- the messages of a stream with one more byte
received_more : (r : Option MidiMessage) (xs : List ℕ) (byte : ℕ) → Answers r (messages xs) (messages (xs ++ byte ∷ []))
    → ended_messages (xs ++ byte ∷ []) ≡ ended_messages xs ++ one_ended (exclusive_of (xs ++ byte ∷ [])) r
received_more r xs byte a = ended_after_more [] xs byte ∙ ap (λ (hs : List EndedMessage). ended_messages xs ++ hs) (ended_answer r xs byte a)

-- what comes of a stream with one more byte
outcomes_more : (curve : Curve) (r : Option MidiMessage) (xs : List ℕ) (byte : ℕ) → Answers r (messages xs) (messages (xs ++ byte ∷ []))
    → outcomes curve (xs ++ byte ∷ []) ≡ outcomes curve xs ++ map (ended_outcome curve) (one_ended (exclusive_of (xs ++ byte ∷ [])) r)
outcomes_more curve r xs byte a = ap (map (ended_outcome curve)) (received_more r xs byte a) ∙ map-append (ended_outcome curve) (ended_messages xs) _

same_messages : (r : Option MidiMessage) (bytes : List ℕ) (before now : List MidiMessage) → Answers r before now
    → before ++ map (λ h. h.message) (one_ended bytes r) ≡ now
same_messages None bytes before now a = append-nil before ∙ sym a
same_messages (Some m) bytes before now a = sym a

-- the messages with their bytes are still the messages of the stream
received_still : (r : Option MidiMessage) (xs : List ℕ) (byte : ℕ) → Answers r (messages xs) (messages (xs ++ byte ∷ []))
    → map (λ h. h.message) (ended_messages xs) ≡ messages xs
    → map (λ h. h.message) (ended_messages (xs ++ byte ∷ [])) ≡ messages (xs ++ byte ∷ [])
received_still r xs byte a e =
    ap (map (λ (h : EndedMessage). h.message)) (received_more r xs byte a) ∙ map-append (λ (h : EndedMessage). h.message) (ended_messages xs) _
    ∙ ap (λ (ms : List MidiMessage). ms ++ map (λ (h : EndedMessage). h.message) (one_ended (exclusive_of (xs ++ byte ∷ [])) r)) e
    ∙ same_messages r (exclusive_of (xs ++ byte ∷ [])) (messages xs) (messages (xs ++ byte ∷ [])) a

no_outcomes : (curve : Curve) → outcomes curve [] ≡ []
unfolding ended_after
no_outcomes curve = refl

no_messages : map (λ (h : EndedMessage). h.message) (ended_messages []) ≡ messages []
unfolding ended_after messages
no_messages = refl

-- a port that has used nothing
pub new_used : (reader : MidiReader) (curve : Curve) → Reads reader [] → HasUsed reader curve None [] []
new_used reader curve r = record { reads = r; received = no_messages; tells = no_outcomes curve; last = tt }

kept_same : (curve : Curve) (keeps : Option Kept) (m : MidiMessage) (sysex bytes : List ℕ) → KeepsThis keeps m
    → command_of m sysex curve ≡ command_of m bytes curve
    → kept_outcomes curve sysex keeps ≡ kept_outcomes curve bytes keeps
kept_same curve None m sysex bytes k e = refl
kept_same curve (Some (kept.Command command)) m sysex bytes k e = refl
kept_same curve (Some (kept.Message held)) m sysex bytes k e = rw k (ap (λ (t : MessageOutcome). t ∷ []) e)

keeps_last : (keeps : Option Kept) (m : MidiMessage) (stream : List ℕ) → KeepsThis keeps m → IsLast m stream → KeepsLast keeps stream
keeps_last None m stream k l = tt
keeps_last (Some (kept.Command command)) m stream k l = tt
keeps_last (Some (kept.Message held)) m stream k l = rw k l

none_last : (keeps : Option Kept) (stream : List ℕ) → KeepsNoMessage keeps → KeepsLast keeps stream
none_last None stream k = tt
none_last (Some (kept.Command command)) stream k = tt
none_last (Some (kept.Message held)) stream k = absurd k

-- what comes of what is told last
received_by :
    (reader : MidiReader) (curve : Curve) (keeps : Option Kept) (done : List MessageOutcome) (stream sysex : List ℕ) (t : MessageOutcome) (old new : SendView)
    (fed : Fed)
    → Reads reader stream → map (λ h. h.message) (ended_messages stream) ≡ messages stream
    → outcomes curve stream ≡ done ++ t ∷ [] → IsDoneOrKept curve sysex t keeps old new fed
    → kept_outcomes curve sysex keeps ≡ kept_outcomes curve (exclusive_of stream) keeps → KeepsLast keeps stream
    → (now : List MessageOutcome) × (HasUsed reader curve keeps (done ++ now) stream × Handles now old new fed)
received_by reader curve keeps done stream sysex t old new fed r ms e s same l = (
  s.now,
  (
    record {
      reads = r;
      received = ms;
      tells = e ∙ ap (λ ts. done ++ ts) (s.splits ∙ ap (λ ts. s.now ++ ts) same) ∙ sym (append_assoc done s.now _);
      last = l;
    },
    s.handles,
  ),
)

-- a byte that ends a message
pub byte_told :
    (was reader : MidiReader) (curve : Curve) (keeps : Option Kept) (done : List MessageOutcome) (stream sysex : List ℕ) (byte : ℕ) (m : MidiMessage)
    (old new : SendView) (fed : Fed)
    → HasUsed was curve None done stream → Reads reader (stream ++ byte ∷ [])
    → Answers (Some m) (messages stream) (messages (stream ++ byte ∷ [])) → InRange m → HasBytes m (last_sysex (stream ++ byte ∷ []))
    → IfSome (last_sysex (stream ++ byte ∷ [])) (λ bytes. length bytes ≤ 5000 → sysex ≡ bytes)
    → IsDoneOrKept curve sysex (command_of m sysex curve) keeps old new fed → KeepsThis keeps m
    → (now : List MessageOutcome) × (HasUsed reader curve keeps (done ++ now) (stream ++ byte ∷ []) × Handles now old new fed)
byte_told was reader curve keeps done stream sysex byte m old new fed u r a range has text s k =
    let same = told_same m (last_sysex (stream ++ byte ∷ [])) sysex curve range has text in
    let tells : outcomes curve (stream ++ byte ∷ []) ≡ done ++ command_of m sysex curve ∷ [] =
    outcomes_more curve (Some m) stream byte a ∙ ap (λ (ts : List MessageOutcome). ts ++ command_of m (exclusive_of (stream ++ byte ∷ [])) curve ∷ []) (u.tells
    ∙ append-nil done)
    ∙ ap (λ (t : MessageOutcome). done ++ t ∷ []) (sym same) in
    received_by reader curve keeps done (stream ++ byte ∷ []) sysex (command_of m sysex curve) old new fed r (received_still (Some m) stream byte a u.received)
    tells s (kept_same curve keeps m sysex _ k same)
    (keeps_last keeps m (stream ++ byte ∷ []) k (record { earlier = messages stream; last = a; bytes = has }))

-- a byte that ends no message
pub byte_silent :
    (was reader : MidiReader) (curve : Curve) (keeps : Option Kept) (done : List MessageOutcome) (stream : List ℕ) (byte used : ℕ) (end : SendView)
    → keeps ≡ None → HasUsed was curve keeps done stream → Reads reader (stream ++ byte ∷ []) → Answers None (messages stream) (messages (stream ++ byte ∷ []))
    → (now : List MessageOutcome) × (HasUsed reader curve keeps (done ++ now) (stream ++ byte ∷ [])
    × Handles now end end (record { used = used; sent = 0; passed_over = 0; refused = 0; stop = All }))
byte_silent was reader curve keeps done stream byte used end e u r a =
    let clear : HasUsed was curve None done stream = rw (← e) u in
    let more : outcomes curve (stream ++ byte ∷ []) ≡ (done ++ []) ++ [] =
    outcomes_more curve None stream byte a ∙ ap (λ (ts : List MessageOutcome). ts ++ []) clear.tells in (
      [],
      (
        rw e (record { reads = r; received = received_still None stream byte a clear.received; tells = more; last = tt }),
        record {
          end_is = refl;
          sent_is =
              refl;
          passed_over_is = refl;
          refused_is = refl;
        },
      ),
    )

-- the same, with another count of bytes
pub with_used : (now : List MessageOutcome) (old new : SendView) (fed : Fed) (used : ℕ) → Handles now old new fed
    → Handles now old new (record { used = used; sent = fed.sent; passed_over = fed.passed_over; refused = fed.refused; stop = fed.stop })
with_used now old new fed used h = record { end_is = h.end_is; sent_is = h.sent_is; passed_over_is = h.passed_over_is; refused_is = h.refused_is }

-- a command that was kept
pub kept_command_told :
    (reader : MidiReader) (curve : Curve) (was keeps : Option Kept) (done : List MessageOutcome) (stream : List ℕ) (held : Kept) (waiting command : CommandData)
    (old new : SendView) (fed : Fed)
    → HasUsed reader curve was done stream → Some held ≡ was → held ≡ kept.Command waiting → command ≡ waiting
    → ((c : Curve) (bytes : List ℕ) → IsDoneOrKept c bytes (Yields command) keeps old new fed) → KeepsNoMessage keeps
    → (now : List MessageOutcome) × (HasUsed reader curve keeps (done ++ now) stream × Handles now old new fed)
kept_command_told reader curve was keeps done stream held waiting command old new fed u w h e s k =
    let is : was ≡ Some (kept.Command command) = sym w ∙ ap (λ (x : Kept). Some x) (h ∙ ap (λ (d : CommandData). kept.Command d) (sym e)) in
    let v : HasUsed reader curve (Some (kept.Command command)) done stream = rw (← is) u in
    received_by reader curve keeps done stream (exclusive_of stream) (Yields command) old new fed v.reads v.received v.tells (s curve (exclusive_of stream))
    refl (none_last keeps stream k)

-- a message that was kept
pub kept_message_told :
    (reader : MidiReader) (curve : Curve) (was keeps : Option Kept) (done : List MessageOutcome) (stream sysex : List ℕ) (held : Kept) (ended m : MidiMessage)
    (old new : SendView) (fed : Fed)
    → HasUsed reader curve was done stream → Some held ≡ was → held ≡ kept.Message ended → m ≡ ended → InRange m
    → IfSome (last_sysex stream) (λ bytes. length bytes ≤ 5000 → sysex ≡ bytes)
    → IsDoneOrKept curve sysex (command_of m sysex curve) keeps old new fed → KeepsThis keeps m
    → (now : List MessageOutcome) × (HasUsed reader curve keeps (done ++ now) stream × Handles now old new fed)
kept_message_told reader curve was keeps done stream sysex held ended m old new fed u w h e range text s k =
    let is : was ≡ Some (kept.Message m) = sym w ∙ ap (λ (x : Kept). Some x) (h ∙ ap (λ (x : MidiMessage). kept.Message x) (sym e)) in
    let v : HasUsed reader curve (Some (kept.Message m)) done stream = rw (← is) u in
    let same = told_same m (last_sysex stream) sysex curve range v.last.bytes text in
    received_by reader curve keeps done stream sysex (command_of m sysex curve) old new fed v.reads v.received (v.tells
    ∙ ap (λ (t : MessageOutcome). done ++ t ∷ []) (sym same)) s
    (kept_same curve keeps m sysex _ k same) (keeps_last keeps m stream k v.last)
