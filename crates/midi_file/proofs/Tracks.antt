-- The events of a track, one after the other.
use Rattle.std.proofs.Common.{◌≡◌, ℕ, zero, suc, ◌+◌, ◌-◌, ◌<◌, ◌≤◌, List, [], ◌∷◌, ◌++◌, length, Bool, true, false, cond, refl, ap, sym, ◌∙◌, subst}
use Rattle.std.proofs.Common.{arith, append_assoc, append-nil}
use Rattle.std.specs.Prelude.{◌==◌}
use Rattle.std.proofs.lemmas.Bool.{eqb-true}
use Rattle.midi_stream.specs.FedStream.{Reads}
use Rattle.midi_stream.specs.declared.reader.MidiReader.{MidiReader}
use Rattle.script_outcome.specs.declared.fault.Place.TheVariants as place
use Rattle.script_outcome.specs.declared.fault.ScriptKind.{ScriptKind}
use Rattle.script_outcome.specs.declared.fault.ScriptFault.{ScriptFault}
use Rattle.script_outcome.specs.declared.fault.ScriptFault.TheVariants as faults
use Rattle.midi_file.specs.Event.{EventData, EventRead, Event, Broken, event_at}
use Rattle.midi_file.specs.Track.{Found, TimedData, TrackOutcome, Breaks, event_outcomes, ends_track, events_outcomes, events_in, fed_by, found_at}
use Rattle.midi_file.specs.Track.{track_outcomes}
use Rattle.midi_file.specs.FileSoFar.{Faults, all_come}
use Rattle.midi_file.proofs.EndedMessages.{fault_here, faults_more}

-- the reader of a track stands before these bytes of it, which end at a place; what acts before it and in it is this
pub record IsWithinTrack (reader : MidiReader) (end tick running : ℕ) (rest : List ℕ) (acts : List TimedData) (all : List TrackOutcome) : Type 0 where
  pub more : ℕ
  pub stream : List ℕ
  pub enough : length rest ≤ more
  pub reads : Reads reader stream
  pub left : all_come acts ++ events_outcomes tick stream (events_in more end running rest) ≡ all

pub within_none : (reader : MidiReader) (end : ℕ) (bytes : List ℕ) (acts : List TimedData) → Reads reader []
    → IsWithinTrack reader end 0 0 bytes acts (all_come acts ++ track_outcomes end bytes)
within_none reader end bytes acts reads = record { more = length bytes; stream = []; enough = omega arith; reads = reads; left = refl }

-- whether bytes are left
pub some_left : (bytes : List ℕ) (none : Bool) → none ≡ (length bytes == 0) → none ≡ false → 0 < length bytes
some_left [] none is some = absurd (cc)
some_left (byte ∷ bytes) none is some = omega arith

pub none_left : (bytes : List ℕ) (none : Bool) → none ≡ (length bytes == 0) → none ≡ true → bytes ≡ []
none_left [] none is over = refl
none_left (byte ∷ bytes) none is over = let empty : length (byte ∷ bytes) ≡ 0 = eqb-true _ _ (sym is ∙ over) in absurd (omega arith)

-- the events in bytes, by the first one
events_first : (more end running : ℕ) (rest : List ℕ) (r : EventRead) → 0 < length rest → length rest ≤ more → event_at running rest ≡ r
    → (m : ℕ) × (more ≡ m + 1) × (events_in more end running rest ≡ found_at (end - length rest) (events_in m end) r)
unfolding events_in
events_first more end running [] r some enough is = absurd (omega arith)
events_first zero end running (byte ∷ rest) r some enough is = absurd (omega arith)
events_first (suc m) end running (byte ∷ rest) r some enough is =
    (m, omega arith, ap (found_at (end - length (byte ∷ rest)) (events_in m end)) is)

-- what is broken in a track
pub broken_within : (fault : ScriptFault) (reader : MidiReader) (end tick running : ℕ) (rest : List ℕ) (acts : List TimedData) (all : List TrackOutcome)
    (why : ScriptKind)
    → IsWithinTrack reader end tick running rest acts all → 0 < length rest → event_at running rest ≡ Broken why
    → fault ≡ faults.Refused (place.Byte (end - length rest)) why → Faults fault all
unfolding events_outcomes
broken_within fault reader end tick running rest acts all why w some is refused =
    let first = events_first w.more end running rest (Broken why) some w.enough is in
    let same : all_come acts ++ Breaks (end - length rest) why ∷ [] ≡ all =
    ap (λ (fs : List Found). all_come acts ++ events_outcomes tick w.stream fs) (sym first.2) ∙ w.left in
    subst (λ (f : ScriptFault). Faults f all) (sym refused)
    (subst (λ (hs : List TrackOutcome). Faults (faults.Refused (place.Byte (end - length rest)) why) hs) same (fault_here acts (end - length rest) why))

-- what happens by an event, and after it
events_then : (tick place : ℕ) (stream : List ℕ) (later : ℕ → List ℕ → List Found) (e : EventData)
    → events_outcomes tick stream (found_at place later (Event e))
    ≡ event_outcomes (tick + e.delta) place stream e.kind ++ events_outcomes (tick + e.delta) (stream
    ++ fed_by e.kind) (cond (ends_track e.kind) [] (later e.running e.rest))
unfolding events_outcomes
events_then tick place stream later e = refl

all_by_event : (reader : MidiReader) (end tick running : ℕ) (rest : List ℕ) (acts : List TimedData) (all : List TrackOutcome) (e : EventData)
    → (w : IsWithinTrack reader end tick running rest acts all) → 0 < length rest → event_at running rest ≡ Event e
    → (m : ℕ) × (w.more ≡ m + 1) × ((all_come acts ++ event_outcomes (tick + e.delta) (end - length rest) w.stream e.kind)
    ++ events_outcomes (tick + e.delta) (w.stream ++ fed_by e.kind) (cond (ends_track e.kind) [] (events_in m end e.running e.rest)) ≡ all)
all_by_event reader end tick running rest acts all e w some is =
    let first = events_first w.more end running rest (Event e) some w.enough is in (
      first.0,
      first.1,
      append_assoc (all_come acts) _ _
          ∙ ap (λ (hs : List TrackOutcome). all_come acts ++ hs) (sym (events_then tick (end - length rest) w.stream (events_in first.0 end) e))
          ∙ ap (λ (fs : List Found). all_come acts ++ events_outcomes tick w.stream fs) (sym first.2) ∙ w.left,
    )

-- a fault of an event
pub fault_within : (reader : MidiReader) (end tick tick' running : ℕ) (rest : List ℕ) (acts : List TimedData) (all : List TrackOutcome) (e : EventData)
    (why : ScriptFault)
    → (w : IsWithinTrack reader end tick running rest acts all) → 0 < length rest → event_at running rest ≡ Event e → tick' ≡ tick + e.delta
    → Faults why (all_come acts ++ event_outcomes tick' (end - length rest) w.stream e.kind) → Faults why all
fault_within reader end tick tick' running rest acts all e why w some is on fault =
    let by = all_by_event reader end tick running rest acts all e w some is in
    subst (λ (hs : List TrackOutcome). Faults why hs) by.2
    (faults_more why _ _ (subst (λ (n : ℕ). Faults why (all_come acts ++ event_outcomes n (end - length rest) w.stream e.kind)) on fault))

-- one more event of a track
pub within_more : (reader reader' : MidiReader) (end tick tick' running : ℕ) (rest : List ℕ) (acts acts' : List TimedData) (all : List TrackOutcome)
    (e : EventData)
    → (w : IsWithinTrack reader end tick running rest acts all) → 0 < length rest → event_at running rest ≡ Event e → length e.rest < length rest
    → tick' ≡ tick + e.delta
    → Reads reader' (w.stream ++ fed_by e.kind) → all_come acts' ≡ all_come acts ++ event_outcomes tick' (end - length rest) w.stream e.kind
    → ends_track e.kind ≡ false → IsWithinTrack reader' end tick' e.running e.rest acts' all
within_more reader reader' end tick tick' running rest acts acts' all e w some is shorter on reads come goes =
    let by = all_by_event reader end tick running rest acts all e w some is in
    subst (λ (n : ℕ). IsWithinTrack reader' end n e.running e.rest acts' all) (sym on)
    (record {
      more = by.0;
      stream = w.stream ++ fed_by e.kind;
      enough = let count : w.more ≡ by.0 + 1 = by.1 in let enough : length rest ≤ w.more = w.enough in omega arith;
      reads = reads;
      left = ap (λ (hs : List TrackOutcome). hs ++ events_outcomes (tick + e.delta) (w.stream ++ fed_by e.kind) (events_in by.0 end e.running e.rest))
          (come ∙ ap (λ (n : ℕ). all_come acts ++ event_outcomes n (end - length rest) w.stream e.kind) on)
          ∙ ap (λ (t : Bool). (all_come acts ++ event_outcomes (tick + e.delta) (end - length rest) w.stream e.kind)
          ++ events_outcomes (tick + e.delta) (w.stream ++ fed_by e.kind) (cond t [] (events_in by.0 end e.running e.rest))) (sym goes)
          ∙ by.2;
    })

no_events : (tick : ℕ) (stream : List ℕ) → events_outcomes tick stream [] ≡ []
unfolding events_outcomes
no_events tick stream = refl

-- the last event of a track
pub ended_within : (reader : MidiReader) (end tick tick' running : ℕ) (rest : List ℕ) (acts acts' : List TimedData) (all : List TrackOutcome) (e : EventData)
    → (w : IsWithinTrack reader end tick running rest acts all) → 0 < length rest → event_at running rest ≡ Event e → tick' ≡ tick + e.delta
    → all_come acts' ≡ all_come acts ++ event_outcomes tick' (end - length rest) w.stream e.kind
    → ends_track e.kind ≡ true → all_come acts' ≡ all
ended_within reader end tick tick' running rest acts acts' all e w some is on come ends =
    let by = all_by_event reader end tick running rest acts all e w some is in
    let before : List TrackOutcome = all_come acts ++ event_outcomes (tick + e.delta) (end - length rest) w.stream e.kind in
    come ∙ ap (λ (n : ℕ). all_come acts ++ event_outcomes n (end - length rest) w.stream e.kind) on ∙ sym (append-nil before)
    ∙ ap (λ (hs : List TrackOutcome). before ++ hs) (sym (no_events (tick + e.delta) (w.stream ++ fed_by e.kind)))
    ∙ ap (λ (t : Bool). before ++ events_outcomes (tick + e.delta) (w.stream ++ fed_by e.kind) (cond t [] (events_in by.0 end e.running e.rest))) (sym ends)
    ∙ by.2

events_of_none : (more end running : ℕ) → events_in more end running [] ≡ []
unfolding events_in
events_of_none zero end running = refl
events_of_none (suc more) end running = refl

-- the end of a track
pub all_within : (reader : MidiReader) (end tick running : ℕ) (rest : List ℕ) (acts : List TimedData) (all : List TrackOutcome)
    → IsWithinTrack reader end tick running rest acts all → rest ≡ [] → all_come acts ≡ all
all_within reader end tick running rest acts all w none =
    sym (append-nil (all_come acts))
    ∙ ap (λ (hs : List TrackOutcome). all_come acts ++ hs) (sym (no_events tick w.stream))
    ∙ ap (λ (fs : List Found). all_come acts ++ events_outcomes tick w.stream fs) (sym (events_of_none w.more end running))
    ∙ ap (λ (bs : List ℕ). all_come acts ++ events_outcomes tick w.stream (events_in w.more end running bs)) (sym none)
    ∙ w.left
