-- The whole file: a header, the track of a bank, and the song's chunks.
use Rattle.std.proofs.Common.{◌≡◌, ℕ, zero, suc, ◌+◌, ◌-◌, ◌<◌, ◌≤◌, List, [], ◌∷◌, ◌++◌, length, take, drop, map, Bool, true, false, cond, refl, ap, sym, ◌∙◌}
use Rattle.std.proofs.Common.{subst, arith, append_assoc, append-nil, length-append}
use Rattle.std.proofs.lemmas.List.{map-append, length-drop, drop_at}
use Rattle.std.proofs.lemmas.Grind.{flat_map-append}
use Rattle.std.proofs.lemmas.List.Concat.{flat_map-cons}
use Rattle.std.specs.Prelude.{Option, Some, None, nat_lt, nat_eq, codes, ◌==◌, ◌&&◌, nat_le}
use Rattle.std.specs.List.{flat_map, starts_with}
use Rattle.std.proofs.lemmas.Bool.{le-ltb, ne_eqb, eqb-true}
use Rattle.script_plan.specs.Plan.{PlannedData}
use Rattle.script_outcome.specs.declared.fault.Place.TheVariants as place
use Rattle.script_outcome.specs.declared.fault.ScriptKind.{ScriptKind}
use Rattle.script_outcome.specs.declared.fault.ScriptKind.TheVariants as kind
use Rattle.script_outcome.specs.Outcomes.{Outcome, Gives, Fails}
use Rattle.script_outcome.specs.Plan.{Commands, plan_of}
use Rattle.script_outcome.specs.ReaderAnswer.{all_given}
use Rattle.script_outcome.proofs.Plans.{whole}
use Rattle.script_read.specs.Plan.{is_midi_file, is_stream, lines_outcomes, outcomes, plan}
use Rattle.script_read.specs.Words.{lines_of}
use Rattle.midi_stream.specs.Ended.{EndedMessage}
use Rattle.midi_file.specs.Track.{TimedData, TrackOutcome, Comes, Breaks, track_outcomes}
use Rattle.midi_file.specs.Chunks.{Chunk, Track, after_chunk, breaks, chunk_bytes, chunk_cut, chunk_length, chunk_outcomes, division_of, file_outcomes}
use Rattle.midi_file.specs.Chunks.{header_fault, is_track, track_count, tracks_in, tracks_outcomes, unless_cut}
use Rattle.midi_file.specs.File.{acts_in, first_fault, in_order, midi_outcomes, timed_plan, unless_refused}
use Rattle.midi_file.specs.FileSoFar.{all_come}
use Rattle.midi_file.proofs.Files.{good_header}
use Rattle.song_bank.specs.Messages.{ended_messages}
use Rattle.song_bank.specs.Event.{ended_event}
use Rattle.song_bank.specs.Song.{chunk, end_of_track, events_of, header_with_track, stream_events, track_of, with_first_track}
use Rattle.song_bank.specs.Promise.{AreFaultless, AreSoundStreams, Leads, bank_commands}
use Rattle.song_bank.proofs.Places.{bare, bare_both}
use Rattle.song_bank.proofs.Chunked.{tracks_bare}
use Rattle.song_bank.proofs.Merged.{acts_come, come_all, moved, no_fault, plan_first, plan_same, planned_at_once, plays_at_once, unplaced, both_outcomes}
use Rattle.song_bank.proofs.Headers.{HasHeader, IsChunk, IsGood, chunk_is, good_is, good_with_track, header_says, length_header, name_kept}
use Rattle.song_bank.proofs.Parsing.{told, track_read}
use Rattle.song_bank.proofs.Law.{BankComes, all_messages, bank_comes, commands_are, given_unplaced}

-- the events of streams are those of all their messages
pub events_are : (streams : List (List ℕ)) → events_of streams ≡ flat_map ended_event (all_messages streams)
unfolding stream_events
events_are [] = refl
events_are (stream ∷ streams) =
    ap (λ (x : List ℕ). flat_map ended_event (ended_messages stream) ++ x) (events_are streams)
    ∙ sym (flat_map-append ended_event (ended_messages stream) (all_messages streams))

-- the first chunk of a file is a track
first_track : (more size wanted : ℕ) (file bytes rest : List ℕ) → IsChunk file bytes rest → 0 < more
    → (m : ℕ) × (more ≡ m + 1) × (tracks_outcomes more size (wanted + 1) file ≡ track_outcomes (size - length rest) bytes ++ tracks_outcomes m size wanted rest)
unfolding tracks_in chunk_cut
first_track zero size wanted file bytes rest is some = absurd (omega arith)
first_track (suc m) size wanted file bytes rest is some =
    let long : length file ≡ 8 + length bytes + length rest = is.long in
    let said : chunk_length file ≡ length bytes = is.size in
    let a : nat_lt (length file) 4 ≡ false = le-ltb (length file) 4 (omega arith) in
    let b : nat_lt (length file) 8 ≡ false = le-ltb (length file) 8 (omega arith) in
    let c : nat_lt (length file) (8 + chunk_length file) ≡ false = le-ltb (length file) (8 + chunk_length file) (omega arith) in
    let w : (wanted + 1 == 0) ≡ false = ne_eqb (wanted + 1) 0 (λ e. omega arith) in
    let one : wanted + 1 - 1 ≡ wanted = omega arith in (
      m,
      omega arith,
      rw (w, a, b, c, is.track, one)
          (ap (λ (x : List ℕ). track_outcomes (size - length (after_chunk file)) x ++ tracks_outcomes m size wanted (after_chunk file)) is.bytes_are
          ∙ ap (λ (x : List ℕ). track_outcomes (size - length x) bytes ++ tracks_outcomes m size wanted x) is.after),
    )

-- the parts of the file
parts : (song events : List ℕ) → with_first_track song events ≡ header_with_track song ++ (track_of events ++ after_chunk song)
unfolding with_first_track
parts song events = append_assoc (header_with_track song) (track_of events) (after_chunk song)

-- what is known of the file
pub record IsOut (song events out : List ℕ) : Type 0 where
  pub good : header_fault out ≡ None
  pub tracks : track_count out ≡ track_count song + 1
  pub division : division_of out ≡ division_of song
  pub after : after_chunk out ≡ track_of events ++ after_chunk song
  pub long : length out ≡ 8 + chunk_length song + length (track_of events ++ after_chunk song)

out_is : (song events : List ℕ) → header_fault song ≡ None → track_count song < 65535
    → IsOut song events (header_with_track song ++ (track_of events ++ after_chunk song))
out_is song events good few =
    let g = good_is song good in
    let rest : List ℕ = track_of events ++ after_chunk song in
    let has = header_says song (track_of events ++ after_chunk song) g few in
    let l : length (header_with_track song) ≡ 8 + chunk_length song = length_header song g in
    let a : length (header_with_track song ++ (track_of events ++ after_chunk song)) ≡ length (header_with_track song) + length (track_of events
    ++ after_chunk song) =
    length-append (header_with_track song) (track_of events ++ after_chunk song) in
    record {
      good = good_with_track song (header_with_track song ++ (track_of events ++ after_chunk song)) g has (omega arith);
      tracks = has.tracks;
      division = has.division;
      after = ap (λ (n : ℕ). drop (8 + n) (header_with_track song ++ (track_of events ++ after_chunk song))) has.size
          ∙ drop_at (header_with_track song) (track_of events ++ after_chunk song) (8 + chunk_length song) l;
      long = omega arith;
    }

-- what happens in the file, but for places: the bank's commands at the first tick, and then what happens in the song
file_bare : (song events out : List ℕ) (streams : List (List ℕ)) → header_fault song ≡ None → IsOut song events out
    → events ≡ flat_map ended_event (all_messages streams) → length events ≤ 536870912 → (bank : BankComes streams)
    → bare (file_outcomes out) ≡ bare (all_come (plays_at_once bank.commands) ++ file_outcomes song)
file_bare song events out streams good is events_is small bank =
    let bytes : List ℕ = events ++ end_of_track in
    let l : length (events ++ end_of_track) ≡ length events + 4 = length-append events end_of_track in
    let c = chunk_is (events ++ end_of_track) (after_chunk song) (omega arith) in
    let clong : length (track_of events ++ after_chunk song) ≡ 8 + length (events ++ end_of_track) + length (after_chunk song) = c.long in
    let olong : length out ≡ 8 + chunk_length song + length (track_of events ++ after_chunk song) = is.long in
    let g = good_is song good in
    let within : 8 + chunk_length song ≤ length song = g.within in
    let alen : length (after_chunk song) ≡ length song - (8 + chunk_length song) = length-drop (8 + chunk_length song) song in
    let first = first_track (length out) (length out) (track_count song) (track_of events ++ after_chunk song) (events
    ++ end_of_track) (after_chunk song) c (omega arith) in
    let m : length out ≡ first.0 + 1 = first.1 in
    let all : file_outcomes out ≡ track_outcomes (length out - length (after_chunk song)) (events ++ end_of_track)
    ++ tracks_outcomes first.0 (length out) (track_count song) (after_chunk song) =
    good_header out is.good
    ∙ ap (λ (n : ℕ). tracks_outcomes (length out) (length out) n (after_chunk out)) is.tracks
    ∙ ap (tracks_outcomes (length out) (length out) (track_count song + 1)) is.after
    ∙ first.2 in
    let in_track : bare (track_outcomes (length out - length (after_chunk song)) (events ++ end_of_track)) ≡ bare (all_come (plays_at_once bank.commands)) =
    ap (λ (bs : List ℕ). bare (track_outcomes (length out - length (after_chunk song)) (bs ++ end_of_track))) events_is
    ∙ track_read (all_messages streams) (length (flat_map ended_event (all_messages streams) ++ end_of_track)) (length out - length (after_chunk song)) 0 []
    bank.sound bank.kept (omega arith)
    ∙ ap bare bank.in_track in
    let in_song : bare (tracks_outcomes first.0 (length out) (track_count song) (after_chunk song)) ≡ bare (file_outcomes song) =
    tracks_bare first.0 (length song) (length out) (length song) (track_count song) (after_chunk song) (omega arith) (omega arith)
    ∙ ap bare (sym (good_header song good)) in
    ap bare all ∙ bare_both _ _ _ _ in_track in_song

-- no fault where all that comes is commands
unrefused : (os : List TrackOutcome) (xs : List Outcome) (later : List PlannedData) → unless_refused (first_fault os) xs ≡ all_given later
    → (first_fault os ≡ []) × (xs ≡ all_given later)
unrefused [] xs later is = (refl, is)
unrefused (Comes e ∷ os) xs later is = unrefused os xs later is
unrefused (Breaks at why ∷ os) xs [] is = absurd (cc)
unrefused (Breaks at why ∷ os) xs (c ∷ later) is = absurd (cc)

song_acts : (song : List ℕ) (later : List PlannedData) → midi_outcomes None song ≡ all_given later
    → (first_fault (file_outcomes song) ≡ []) × (timed_plan None (division_of song) (in_order (acts_in (file_outcomes song))) ≡ all_given later)
unfolding midi_outcomes
song_acts song later is = unrefused (file_outcomes song) _ later is

out_acts : (out : List ℕ) (acts : List TimedData) → file_outcomes out ≡ all_come acts
    → midi_outcomes None out ≡ timed_plan None (division_of out) (in_order acts)
unfolding midi_outcomes
out_acts out acts is = rw (is, no_fault acts, acts_come acts) refl

given_two : (cs ds : List PlannedData) → all_given cs ++ all_given ds ≡ all_given (cs ++ ds)
given_two cs ds = sym (map-append Gives cs ds)

come_two : (es fs : List TimedData) → all_come es ++ all_come fs ≡ all_come (es ++ fs)
come_two es fs = sym (map-append Comes es fs)

pub outcomes_lead : (song events out : List ℕ) (streams : List (List ℕ)) (later : List PlannedData) → header_fault song ≡ None → IsOut song events out
    → events ≡ flat_map ended_event (all_messages streams) → length events ≤ 536870912 → BankComes streams → midi_outcomes None song ≡ all_given later
    → midi_outcomes None out ≡ all_given (bank_commands streams ++ later)
outcomes_lead song events out streams later good is events_is small bank song_is =
    let acts : List TimedData = acts_in (file_outcomes song) in
    let by = song_acts song later song_is in
    let come : file_outcomes song ≡ all_come (acts_in (file_outcomes song)) = come_all (file_outcomes song) by.0 in
    let happens : bare (file_outcomes out) ≡ bare (all_come (plays_at_once bank.commands ++ acts_in (file_outcomes song))) =
    file_bare song events out streams good is events_is small bank
    ∙ ap (λ (os : List TrackOutcome). bare (all_come (plays_at_once bank.commands) ++ os)) come
    ∙ ap bare (come_two (plays_at_once bank.commands) (acts_in (file_outcomes song))) in
    let m = moved (file_outcomes out) (plays_at_once bank.commands ++ acts_in (file_outcomes song)) happens in
    let plan_is : midi_outcomes None out ≡ timed_plan None (division_of song) (in_order m.acts) =
    out_acts out m.acts m.come ∙ ap (λ (n : ℕ). timed_plan None n (in_order m.acts)) is.division in
    let whole_is : timed_plan None (division_of song) (in_order (plays_at_once bank.commands ++ acts_in (file_outcomes song))) ≡ all_given
    (planned_at_once bank.commands ++ later) =
    plan_first (division_of song) bank.commands (acts_in (file_outcomes song))
    ∙ ap (λ (os : List Outcome). all_given (planned_at_once bank.commands) ++ os) by.1
    ∙ given_two (planned_at_once bank.commands) later in
    given_unplaced (midi_outcomes None out) (bank_commands streams ++ later)
    (ap (map unplaced) plan_is
    ∙ plan_same None (division_of song) m.acts (plays_at_once bank.commands ++ acts_in (file_outcomes song)) m.same
    ∙ ap (map unplaced) whole_is
    ∙ ap (λ (cs : List PlannedData). map unplaced (all_given (cs ++ later))) (sym bank.in_streams))

-- ---- scripts

and_first : (s t : Bool) → s && t ≡ true → s ≡ true
and_first true t is = refl
and_first false t is = absurd (cc)

no_stream : (bytes : List ℕ) → is_midi_file bytes ≡ true → is_stream bytes ≡ false
no_stream [] is = refl
no_stream (byte ∷ bytes) is =
    let same : 77 ≡ byte = eqb-true 77 byte (and_first (nat_eq 77 byte) _ is) in
    ne_eqb byte 240 (λ e. omega (arith, e, same))

midi_only : (bytes : List ℕ) → is_midi_file bytes ≡ true → outcomes None bytes ≡ midi_outcomes None bytes
unfolding outcomes
midi_only bytes is = rw (no_stream bytes is, is) refl

plan_is_of : (bytes : List ℕ) (room : ℕ) → is_midi_file bytes ≡ true → plan bytes None room ≡ plan_of room (midi_outcomes None bytes)
unfolding plan
plan_is_of bytes room is = ap (plan_of room) (midi_only bytes is)

pub leads : (song events out : List ℕ) (streams : List (List ℕ)) → is_midi_file song ≡ true → header_fault song ≡ None → track_count song < 65535
    → length events ≤ 536870912
    → events ≡ events_of streams → out ≡ with_first_track song events → AreSoundStreams streams → AreFaultless streams → Leads (bank_commands streams) song out
leads song events out streams midi good few small events_is is sound faultless = λ room later song_is fits.
    let bank = bank_comes streams faultless sound in
    let g = good_is song good in
    let rest : List ℕ = track_of events ++ after_chunk song in
    let whole_out : out ≡ header_with_track song ++ (track_of events ++ after_chunk song) = is ∙ parts song events in
    let named : is_midi_file out ≡ true = ap is_midi_file whole_out ∙ name_kept song (track_of events ++ after_chunk song) g ∙ midi in
    let known : IsOut song events out = subst (IsOut song events) (sym whole_out) (out_is song events good few) in
    let song_given : midi_outcomes None song ≡ all_given later = commands_are room (midi_outcomes None song) later (sym (plan_is_of song room midi)
    ∙ song_is) in
    let l : length (bank_commands streams ++ later) ≡ length (bank_commands streams) + length later = length-append (bank_commands streams) later in
    plan_is_of out room named
    ∙ ap (plan_of room) (outcomes_lead song events out streams later good known (events_is ∙ events_are streams) small bank song_given)
    ∙ whole room (bank_commands streams ++ later) (omega arith)

-- the first chunks as they are made, with the song's others after them
pub first_chunks_are : (song events none header start : List ℕ) → none ≡ [] → header ≡ none ++ header_with_track song → start ≡ header ++ track_of events
    → start ++ after_chunk song ≡ with_first_track song events
unfolding with_first_track
first_chunks_are song events none header start empty first second =
    ap (λ (x : List ℕ). x ++ after_chunk song) (second ∙ ap (λ (x : List ℕ). x ++ track_of events) (first
    ∙ ap (λ (x : List ℕ). x ++ header_with_track song) empty))
