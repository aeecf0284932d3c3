-- What happens in a track, but for the places of its events.
use Rattle.std.proofs.Common.{◌≡◌, ℕ, zero, suc, ◌+◌, ◌-◌, List, [], ◌∷◌, ◌++◌, length, map, Bool, true, false, cond, refl, ap, sym, ◌∙◌}
use Rattle.std.proofs.lemmas.List.{map-append}
use Rattle.std.specs.Prelude.{Option, Some, None}
use Rattle.velocity_map.specs.declared.curve.Curve.TheVariants.{Linear}
use Rattle.command_set.specs.Message.{MessageOutcome, Yields, PassedOver, Overlong, Faulty, command_of}
use Rattle.midi_stream.specs.Ended.{EndedMessage, ended_message}
use Rattle.midi_file.specs.Event.{KindData, ChannelMessage, Feeds, SetsTempo, EndsTrack, Nothing, EventData, EventRead, Event, Broken, event_at}
use Rattle.midi_file.specs.Track.{Found, Stands, RefusedAt, ends_track, found_at, events_in, TimedData, timed_at, TrackOutcome, Comes, Breaks, message_outcomes}
use Rattle.midi_file.specs.Track.{ended_outcomes, bytes_outcomes, fed_by, event_outcomes, events_outcomes}

-- an act at no place
abbrev pub placeless : TimedData → TimedData
placeless e = timed_at e.tick 0 e.act

abbrev pub no_place : TrackOutcome → TrackOutcome
no_place (Comes e) = Comes (placeless e)
no_place (Breaks at why) = Breaks 0 why

-- what happens, at no places
abbrev pub bare : List TrackOutcome → List TrackOutcome
bare os = map no_place os

pub both : (a b c d : List TrackOutcome) → a ≡ b → c ≡ d → a ++ c ≡ b ++ d
both a b c d p q = ap (λ (x : List TrackOutcome). x ++ c) p ∙ ap (λ (x : List TrackOutcome). b ++ x) q

-- two parts that are the same at no places
pub bare_both : (a b c d : List TrackOutcome) → bare a ≡ bare b → bare c ≡ bare d → bare (a ++ c) ≡ bare (b ++ d)
bare_both a b c d p q = map-append no_place a c ∙ both (bare a) (bare b) (bare c) (bare d) p q ∙ sym (map-append no_place b d)

pub message_bare : (tick at at' : ℕ) (said : MessageOutcome) → bare (message_outcomes tick at said) ≡ bare (message_outcomes tick at' said)
message_bare tick at at' (Yields command) = refl
message_bare tick at at' PassedOver = refl
message_bare tick at at' (Overlong count) = refl
message_bare tick at at' (Faulty fault) = refl

ended_bare : (tick at at' : ℕ) (o : Option EndedMessage) → bare (ended_outcomes tick at o) ≡ bare (ended_outcomes tick at' o)
ended_bare tick at at' None = refl
ended_bare tick at at' (Some ended) = message_bare tick at at' (command_of ended.message ended.bytes Linear)

bytes_bare : (tick at at' : ℕ) (before bytes : List ℕ) → bare (bytes_outcomes tick at before bytes) ≡ bare (bytes_outcomes tick at' before bytes)
unfolding bytes_outcomes
bytes_bare tick at at' before [] = refl
bytes_bare tick at at' before (byte ∷ bytes) =
    bare_both _ _ _ _ (ended_bare tick at at' (ended_message before byte)) (bytes_bare tick at at' (before ++ byte ∷ []) bytes)

pub event_bare : (tick at at' : ℕ) (before : List ℕ) (k : KindData) → bare (event_outcomes tick at before k) ≡ bare (event_outcomes tick at' before k)
event_bare tick at at' before (ChannelMessage message) = message_bare tick at at' (command_of message [] Linear)
event_bare tick at at' before (Feeds bytes) = bytes_bare tick at at' before bytes
event_bare tick at at' before (SetsTempo tempo) = refl
event_bare tick at at' before EndsTrack = refl
event_bare tick at at' before Nothing = refl

-- what happens by an event, and then by others
pub stands_first : (tick at : ℕ) (fed : List ℕ) (e : EventData) (later : List Found)
    → events_outcomes tick fed (Stands at e ∷ later) ≡ event_outcomes (tick + e.delta) at fed e.kind
    ++ events_outcomes (tick + e.delta) (fed ++ fed_by e.kind) later
unfolding events_outcomes
stands_first tick at fed e later = refl

pub none_follow : (tick : ℕ) (fed : List ℕ) → events_outcomes tick fed [] ≡ []
unfolding events_outcomes
none_follow tick fed = refl

refused_bare : (tick at at' : ℕ) (fed : List ℕ) (e : EventRead) (f g : ℕ → List ℕ → List Found)
    → ((running tick : ℕ) (fed rest : List ℕ) → bare (events_outcomes tick fed (f running rest)) ≡ bare (events_outcomes tick fed (g running rest)))
    → bare (events_outcomes tick fed (found_at at f e)) ≡ bare (events_outcomes tick fed (found_at at' g e))
unfolding events_outcomes
refused_bare tick at at' fed (Broken why) f g alike = refl
refused_bare tick at at' fed (Event e) f g alike =
    bare_both _ _ _ _ (event_bare (tick + e.delta) at at' fed e.kind) (by_end (ends_track e.kind))
  where
    by_end : (t : Bool) → bare (events_outcomes (tick + e.delta) (fed ++ fed_by e.kind) (cond t [] (f e.running e.rest)))
        ≡ bare (events_outcomes (tick + e.delta) (fed ++ fed_by e.kind) (cond t [] (g e.running e.rest)))
    by_end true = refl
    by_end false = alike e.running (tick + e.delta) (fed ++ fed_by e.kind) e.rest

-- the same bytes of a track, wherever it ends
pub events_bare : (more end end' running tick : ℕ) (fed rest : List ℕ)
    → bare (events_outcomes tick fed (events_in more end running rest)) ≡ bare (events_outcomes tick fed (events_in more end' running rest))
unfolding events_in
events_bare zero end end' running tick fed rest = refl
events_bare (suc more) end end' running tick fed [] = refl
events_bare (suc more) end end' running tick fed (byte ∷ rest) =
    refused_bare tick (end - length (byte ∷ rest)) (end' - length (byte ∷ rest)) fed (event_at running (byte ∷ rest)) (events_in more end) (events_in more end')
    (λ running tick fed rest. events_bare more end end' running tick fed rest)
