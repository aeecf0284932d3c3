-- What happens by the bytes of a track's events.
use Rattle.std.proofs.Common.{◌≡◌, ℕ, ◌+◌, ◌<◌, ◌≤◌, List, [], ◌∷◌, ◌++◌, length, take, drop, get_or, refl, ap, sym, ◌∙◌, subst, append_assoc, append-nil}
use Rattle.std.specs.Prelude.{Some, None, IfSome}
use Rattle.std.proofs.lemmas.List.{map-append, take-append-drop}
use Rattle.sysex_frame.specs.declared.frame.FrameFault.{FrameFault}
use Rattle.midi_stream.specs.declared.message.MidiMessage.{MidiMessage}
use Rattle.midi_stream.specs.Messages.{messages, last_sysex}
use Rattle.midi_stream.specs.Ranges.{InRange}
use Rattle.midi_stream.specs.Standing.{Answers, HasBytes}
use Rattle.velocity_map.specs.declared.curve.Curve.TheVariants.{Linear}
use Rattle.command_set.specs.Message.{MessageOutcome, Overlong, Faulty, command_of}
use Rattle.script_outcome.specs.declared.fault.Place.TheVariants as place
use Rattle.script_outcome.specs.declared.fault.ScriptKind.{ScriptKind}
use Rattle.script_outcome.specs.declared.fault.ScriptKind.TheVariants as kind
use Rattle.script_outcome.specs.declared.fault.ScriptFault.{ScriptFault}
use Rattle.script_outcome.specs.declared.fault.ScriptFault.TheVariants as faults
use Rattle.midi_stream.specs.Ended.{ended_message}
use Rattle.script_outcome.specs.Outcomes.{Fails}
use Rattle.midi_file.specs.Track.{TimedData, TrackOutcome, Comes, Breaks, message_outcomes, ended_outcomes, bytes_outcomes}
use Rattle.midi_file.specs.File.{first_fault}
use Rattle.midi_file.specs.FileSoFar.{Faults, all_come}
use Rattle.midi_stream.proofs.Ended.{ended_is}
use Rattle.command_set.proofs.KeptBytes.{told_same}
use Rattle.script_outcome.proofs.EndedMessages.{take_next}

-- ---- first faults

fault_after : (es : List TimedData) (at : ℕ) (why : ScriptKind) (more : List TrackOutcome)
    → first_fault (all_come es ++ Breaks at why ∷ more) ≡ Fails (place.Byte at) why ∷ []
fault_after [] at why more = refl
fault_after (e ∷ es) at why more = fault_after es at why more

-- a fault after acts
pub fault_here : (es : List TimedData) (at : ℕ) (why : ScriptKind) → Faults (faults.Refused (place.Byte at) why) (all_come es ++ Breaks at why ∷ [])
fault_here es at why = λ more. rw append_assoc (fault_after es at why more)

-- a first fault stays the first with more after
pub faults_more : (why : ScriptFault) (xs ys : List TrackOutcome) → Faults why xs → Faults why (xs ++ ys)
faults_more (faults.Refused at why) xs ys h = λ more. rw append_assoc (h (ys ++ more))
faults_more faults.TooMany xs ys h = absurd h
faults_more faults.Memory xs ys h = tt

-- a fault after more acts
pub faults_among : (why : ScriptFault) (es fs : List TimedData) (xs ys : List TrackOutcome) → all_come fs ≡ all_come es ++ xs
    → Faults why (all_come fs ++ ys) → Faults why (all_come es ++ xs ++ ys)
faults_among why es fs xs ys is h = subst (λ (hs : List TrackOutcome). Faults why (hs ++ ys)) is h

-- ---- acts

pub come_more : (es fs : List TimedData) (e : TimedData) → fs ≡ es ++ e ∷ [] → all_come fs ≡ all_come es ++ Comes e ∷ []
come_more es fs e is = ap all_come is ∙ map-append Comes es (e ∷ [])

by_message : (why : ScriptFault) (es : List TimedData) (tick at : ℕ) (wrong : ScriptKind) (t told : MessageOutcome) → told ≡ t
    → why ≡ faults.Refused (place.Byte at) wrong
    → Faults (faults.Refused (place.Byte at) wrong) (all_come es ++ message_outcomes tick at t) → Faults why (all_come es ++ message_outcomes tick at told)
by_message why es tick at wrong t told is refused fault =
    subst (λ (f : ScriptFault). Faults f (all_come es ++ message_outcomes tick at told)) (sym refused)
    (subst (λ (x : MessageOutcome). Faults (faults.Refused (place.Byte at) wrong) (all_come es ++ message_outcomes tick at x)) (sym is) fault)

pub fault_overlong : (why : ScriptFault) (es : List TimedData) (tick at count : ℕ) (told : MessageOutcome) → told ≡ Overlong count
    → why ≡ faults.Refused (place.Byte at) kind.Long
    → Faults why (all_come es ++ message_outcomes tick at told)
fault_overlong why es tick at count told is refused = by_message why es tick at kind.Long (Overlong count) told is refused (fault_here es at kind.Long)

pub fault_faulty : (why : ScriptFault) (es : List TimedData) (tick at : ℕ) (fault : FrameFault) (told : MessageOutcome) → told ≡ Faulty fault
    → why ≡ faults.Refused (place.Byte at) (kind.Message fault)
    → Faults why (all_come es ++ message_outcomes tick at told)
fault_faulty why es tick at fault told is refused = by_message why es tick at (kind.Message fault) (Faulty fault) told is refused
    (fault_here es at (kind.Message fault))

-- ---- one more byte

pub message_is_ended : (m : MidiMessage) (before : List ℕ) (byte : ℕ) (sysex : List ℕ) (tick at : ℕ)
    → Answers (Some m) (messages before) (messages (before ++ byte ∷ [])) → InRange m → HasBytes m (last_sysex (before ++ byte ∷ []))
    → IfSome (last_sysex (before ++ byte ∷ [])) (λ text. length text ≤ 5000 → sysex ≡ text)
    → message_outcomes tick at (command_of m sysex Linear) ≡ ended_outcomes tick at (ended_message before byte)
message_is_ended m before byte sysex tick at answers range has same =
    ap (message_outcomes tick at) (told_same m (last_sysex (before ++ byte ∷ [])) sysex Linear range has same)
    ∙ ap (ended_outcomes tick at) (sym (ended_is (Some m) before byte answers))

pub none_ended : (before : List ℕ) (byte tick at : ℕ) → Answers None (messages before) (messages (before ++ byte ∷ []))
    → ended_outcomes tick at (ended_message before byte) ≡ []
none_ended before byte tick at answers = ap (ended_outcomes tick at) (ended_is None before byte answers)

pub fed_append : (tick at : ℕ) (before xs ys : List ℕ) → bytes_outcomes tick at before (xs ++ ys) ≡ bytes_outcomes tick at before xs
    ++ bytes_outcomes tick at (before ++ xs) ys
unfolding bytes_outcomes
fed_append tick at before [] ys = rw (append-nil before) refl
fed_append tick at before (x ∷ xs) ys =
    let first : List TrackOutcome = ended_outcomes tick at (ended_message before x) in
    let join : (before ++ x ∷ []) ++ xs ≡ before ++ x ∷ xs = append_assoc before (x ∷ []) xs in
    ap (λ (hs : List TrackOutcome). first ++ hs) (fed_append tick at (before ++ x ∷ []) xs ys
    ∙ ap (λ (s : List ℕ). bytes_outcomes tick at (before ++ x ∷ []) xs ++ bytes_outcomes tick at s ys) join)
    ∙ sym (append_assoc first _ _)

fed_one : (tick at : ℕ) (before : List ℕ) (byte : ℕ) → bytes_outcomes tick at before (byte ∷ []) ≡ ended_outcomes tick at (ended_message before byte)
unfolding bytes_outcomes
fed_one tick at before byte = append-nil (ended_outcomes tick at (ended_message before byte))

pub fed_none : (tick at : ℕ) (before : List ℕ) → bytes_outcomes tick at before [] ≡ []
unfolding bytes_outcomes
fed_none tick at before = refl

fed_more : (tick at : ℕ) (before bytes : List ℕ) (k byte : ℕ) → k < length bytes → get_or bytes k 0 ≡ byte
    → bytes_outcomes tick at before (take (k + 1) bytes) ≡ bytes_outcomes tick at before (take k bytes)
    ++ ended_outcomes tick at (ended_message (before ++ take k bytes) byte)
fed_more tick at before bytes k byte below is =
    ap (bytes_outcomes tick at before) (take_next bytes k byte below is)
    ∙ fed_append tick at before (take k bytes) (byte ∷ [])
    ∙ ap (λ (hs : List TrackOutcome). bytes_outcomes tick at before (take k bytes) ++ hs) (fed_one tick at (before ++ take k bytes) byte)

pub fed_step : (tick at : ℕ) (before bytes : List ℕ) (k byte : ℕ) (old now new : List TimedData) → k < length bytes → get_or bytes k 0 ≡ byte
    → all_come now ≡ all_come old ++ bytes_outcomes tick at before (take k bytes)
    → all_come new ≡ all_come now ++ ended_outcomes tick at (ended_message (before ++ take k bytes) byte)
    → all_come new ≡ all_come old ++ bytes_outcomes tick at before (take (k + 1) bytes)
fed_step tick at before bytes k byte old now new below is was more =
    more ∙ ap (λ (hs : List TrackOutcome). hs ++ ended_outcomes tick at (ended_message (before ++ take k bytes) byte)) was
    ∙ append_assoc (all_come old) _ _
    ∙ ap (λ (hs : List TrackOutcome). all_come old ++ hs) (sym (fed_more tick at before bytes k byte below is))

pub fed_faults : (tick at : ℕ) (before bytes : List ℕ) (k byte : ℕ) (why : ScriptFault) (old now : List TimedData) → k < length bytes → get_or bytes k 0 ≡ byte
    → all_come now ≡ all_come old ++ bytes_outcomes tick at before (take k bytes)
    → Faults why (all_come now ++ ended_outcomes tick at (ended_message (before ++ take k bytes) byte))
    → Faults why (all_come old ++ bytes_outcomes tick at before bytes)
fed_faults tick at before bytes k byte why old now below is was fault =
    let front : all_come now ++ ended_outcomes tick at (ended_message (before ++ take k bytes) byte) ≡ all_come old
    ++ bytes_outcomes tick at before (take (k + 1) bytes) =
    ap (λ (hs : List TrackOutcome). hs ++ ended_outcomes tick at (ended_message (before ++ take k bytes) byte)) was
    ∙ append_assoc (all_come old) _ _
    ∙ ap (λ (hs : List TrackOutcome). all_come old ++ hs) (sym (fed_more tick at before bytes k byte below is)) in
    let all : (all_come old ++ bytes_outcomes tick at before (take (k + 1) bytes)) ++ bytes_outcomes tick at (before ++ take (k + 1) bytes) (drop (k + 1) bytes)
    ≡ all_come old ++ bytes_outcomes tick at before bytes =
    append_assoc (all_come old) _ _
    ∙ ap (λ (hs : List TrackOutcome). all_come old ++ hs) (sym (fed_append tick at before (take (k + 1) bytes) (drop (k + 1) bytes))
    ∙ ap (bytes_outcomes tick at before) (take-append-drop (k + 1) bytes)) in
    subst (λ (hs : List TrackOutcome). Faults why hs) all
    (faults_more why _ _ (subst (λ (hs : List TrackOutcome). Faults why hs) front fault))
