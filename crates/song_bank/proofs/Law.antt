-- A song with a first track is the commands of the track's streams, and then the song's.
use Rattle.std.proofs.Common.{◌≡◌, ℕ, zero, suc, ◌+◌, ◌-◌, ◌<◌, ◌≤◌, List, [], ◌∷◌, ◌++◌, length, take, map, Bool, true, false, cond, refl, ap, sym, ◌∙◌, subst}
use Rattle.std.proofs.Common.{arith, append_assoc, append-nil, length-append}
use Rattle.std.proofs.lemmas.List.{map-append}
use Rattle.std.proofs.lemmas.Grind.{flat_map-append}
use Rattle.std.specs.Prelude.{Option, Some, None, nat_lt, codes, ◌==◌}
use Rattle.std.specs.List.{flat_map}
use Rattle.velocity_map.specs.declared.curve.Curve.TheVariants.{Linear}
use Rattle.command_set.specs.Command.{CommandData}
use Rattle.command_set.specs.Message.{MessageOutcome, Yields, PassedOver, Overlong, Faulty, command_of}
use Rattle.midi_stream.specs.declared.message.MidiMessage.{MidiMessage}
use Rattle.midi_stream.specs.declared.message.MidiMessage.TheVariants.{NoteOff, NoteOn, KeyPressure, Control, Program, ChannelPressure, Bend, SysEx}
use Rattle.midi_stream.specs.declared.message.MidiMessage.TheVariants.{SysExTooLong}
use Rattle.midi_stream.specs.Messages.{is_unfinished}
use Rattle.midi_stream.specs.Ended.{EndedMessage, ended_message}
use Rattle.script_plan.specs.Plan.{PlannedData, planned_at}
use Rattle.script_outcome.specs.declared.fault.Place.{Place}
use Rattle.script_outcome.specs.declared.fault.Place.TheVariants as place
use Rattle.script_outcome.specs.declared.fault.ScriptKind.{ScriptKind}
use Rattle.script_outcome.specs.declared.fault.ScriptKind.TheVariants as kind
use Rattle.script_outcome.specs.Stream.{begun_at}
use Rattle.script_outcome.specs.Outcomes.{Outcome, Gives, Fails, ended_outcomes, fed_outcomes}
use Rattle.script_outcome.specs.Outcomes.{message_outcomes as said_of}
use Rattle.script_outcome.specs.Plan.{Plan, Commands, Refused, TooMany, given, plan_of, verdict}
use Rattle.script_outcome.specs.ReaderAnswer.{all_given}
use Rattle.script_outcome.proofs.Plans.{whole}
use Rattle.script_read.specs.Outcomes.{stream_end, stream_outcomes}
use Rattle.midi_file.specs.Track.{Comes, Plays, TimedData, TrackOutcome, timed_at}
use Rattle.midi_file.specs.Track.{message_outcomes}
use Rattle.midi_file.specs.Chunks.{after_chunk, division_of, file_outcomes, header_fault, track_count, tracks_in, tracks_outcomes}
use Rattle.midi_file.specs.File.{acts_in, first_fault, in_order, midi_outcomes, timed_plan, unless_refused}
use Rattle.midi_file.specs.FileSoFar.{all_come}
use Rattle.song_bank.specs.Messages.{ended_after, ended_messages, listed}
use Rattle.song_bank.specs.Sound.{AreSound}
use Rattle.song_bank.specs.Promise.{AreFaultless, AreSoundStreams, bank_commands, commands_in}
use Rattle.song_bank.proofs.Places.{bare}
use Rattle.song_bank.proofs.Merged.{planned_at_once, plays_at_once, unplaced}
use Rattle.song_bank.proofs.Parsing.{AreKept, IsKept, told}

-- ---- plans

-- where the plan is commands, all that comes is these
verdict_is : (ds cs : List PlannedData) (os : List Outcome) → verdict ds os ≡ Commands cs → (ds ≡ cs) × (os ≡ all_given (given os))
verdict_is ds cs [] is = (cc, refl)
verdict_is ds cs (Gives c ∷ os) is = let later = verdict_is ds cs os is in (later.0, ap (λ (x : List Outcome). Gives c ∷ x) later.1)
verdict_is ds cs (Fails at why ∷ os) is = absurd (cc)

pub commands_are : (room : ℕ) (os : List Outcome) (cs : List PlannedData) → plan_of room os ≡ Commands cs → os ≡ all_given cs
unfolding plan_of
commands_are room os cs is = by_test (nat_lt room (length (given os))) is
  where
    by_test : (t : Bool) → cond t TooMany (verdict (given os) os) ≡ Commands cs → os ≡ all_given cs
    by_test true is = absurd (cc)
    by_test false is = let all = verdict_is (given os) cs os is in all.1 ∙ ap all_given all.0

-- outcomes that are commands but for places are commands
pub given_unplaced : (os : List Outcome) (cs : List PlannedData) → map unplaced os ≡ map unplaced (all_given cs) → os ≡ all_given cs
given_unplaced [] [] is = refl
given_unplaced [] (c ∷ cs) is = absurd (cc)
given_unplaced (Gives d ∷ os) [] is = absurd (cc)
given_unplaced (Fails at why ∷ os) [] is = absurd (cc)
given_unplaced (Fails at why ∷ os) (c ∷ cs) is = absurd (cc)
given_unplaced (Gives d ∷ os) (c ∷ cs) is =
    let first : d ≡ c = cc in
    let rest : map unplaced os ≡ map unplaced (all_given cs) = cc in
    ap (λ (x : PlannedData). Gives x ∷ os) first ∙ ap (λ (x : List Outcome). Gives c ∷ x) (given_unplaced os cs rest)

-- ---- streams

-- messages come to these commands at block 0, in a stream and at the first tick of a track
pub record ComesTo (es : List EndedMessage) (os : List Outcome) : Type 0 where
  pub commands : List CommandData
  pub in_stream : os ≡ all_given (planned_at_once commands)
  pub in_track : flat_map told es ≡ all_come (plays_at_once commands)
  pub kept : AreKept es

is_kept : (m : MidiMessage) (bytes : List ℕ) (cs : List CommandData) → message_outcomes 0 0 (command_of m bytes Linear) ≡ all_come (plays_at_once cs) → IsKept m
unfolding command_of
is_kept (NoteOff channel key) bytes cs is = tt
is_kept (NoteOn channel key velocity) bytes cs is = tt
is_kept (KeyPressure channel key value) bytes cs is = tt
is_kept (Control channel number value) bytes cs is = tt
is_kept (Program channel number) bytes cs is = tt
is_kept (ChannelPressure channel value) bytes cs is = tt
is_kept (Bend channel value) bytes cs is = tt
is_kept (SysEx count) bytes cs is = tt
is_kept (SysExTooLong count) bytes [] is = cc
is_kept (SysExTooLong count) bytes (c ∷ cs) is = cc

-- one message
record Says (m : MessageOutcome) (at : Place) (rest : List Outcome) (all : List PlannedData) : Type 0 where
  pub commands : List CommandData
  pub in_stream : said_of at 0 m ≡ all_given (planned_at_once commands)
  pub in_track : message_outcomes 0 0 m ≡ all_come (plays_at_once commands)
  pub later : List PlannedData
  pub left : rest ≡ all_given later

says : (m : MessageOutcome) (at : Place) (rest : List Outcome) (all : List PlannedData) → said_of at 0 m ++ rest ≡ all_given all → Says m at rest all
says (Yields command) at rest [] is = absurd (cc)
says (Yields command) at rest (c ∷ all) is = record { commands = command ∷ []; in_stream = refl; in_track = refl; later = all; left = cc }
says PassedOver at rest all is = record { commands = []; in_stream = refl; in_track = refl; later = all; left = is }
says (Overlong count) at rest [] is = absurd (cc)
says (Overlong count) at rest (c ∷ all) is = absurd (cc)
says (Faulty fault) at rest [] is = absurd (cc)
says (Faulty fault) at rest (c ∷ all) is = absurd (cc)

given_both : (cs ds : List CommandData) → all_given (planned_at_once (cs ++ ds)) ≡ all_given (planned_at_once cs) ++ all_given (planned_at_once ds)
given_both [] ds = refl
given_both (c ∷ cs) ds = ap (λ (x : List Outcome). Gives (planned_at 0 c) ∷ x) (given_both cs ds)

come_both : (cs ds : List CommandData) → all_come (plays_at_once (cs ++ ds)) ≡ all_come (plays_at_once cs) ++ all_come (plays_at_once ds)
come_both [] ds = refl
come_both (c ∷ cs) ds = ap (λ (x : List TrackOutcome). Comes (timed_at 0 0 (Plays c)) ∷ x) (come_both cs ds)

-- one message and those after it
one_more : (o : Option EndedMessage) (at : Place) (es : List EndedMessage) (os tail : List Outcome) (all : List PlannedData)
    → ended_outcomes at 0 Linear o ++ (os ++ tail) ≡ all_given all
    → ((later : List PlannedData) → os ++ tail ≡ all_given later → ComesTo es os) → ComesTo (listed o ++ es) (ended_outcomes at 0 Linear o ++ os)
one_more None at es os tail all is next = next all is
one_more (Some e) at es os tail all is next =
    let first = says (command_of e.message e.bytes Linear) at (os ++ tail) all is in
    let rest = next first.later first.left in
    record {
      commands = first.commands ++ rest.commands;
      in_stream = ap (λ (x : List Outcome). x ++ os) first.in_stream ∙ ap (λ (x : List Outcome). all_given (planned_at_once first.commands) ++ x) rest.in_stream
          ∙ sym (given_both first.commands rest.commands);
      in_track = ap (λ (x : List TrackOutcome). x ++ flat_map told es) first.in_track
          ∙ ap (λ (x : List TrackOutcome). all_come (plays_at_once first.commands) ++ x) rest.in_track ∙ sym (come_both first.commands rest.commands);
      kept = (is_kept e.message e.bytes first.commands first.in_track, rest.kept);
    }

none_come : ComesTo [] []
none_come = record { commands = []; in_stream = refl; in_track = refl; kept = tt }

-- the messages of bytes, where all that comes of them and of what comes after is commands
pub bytes_come : (place_of : List ℕ → Place) (before bytes : List ℕ) (tail : List Outcome) (all : List PlannedData)
    → fed_outcomes place_of 0 Linear before bytes ++ tail ≡ all_given all → ComesTo (ended_after before bytes) (fed_outcomes place_of 0 Linear before bytes)
unfolding fed_outcomes ended_after
bytes_come place_of before [] tail all is = none_come
bytes_come place_of before (byte ∷ bytes) tail all is =
    one_more (ended_message before byte) (place_of before) (ended_after (before ++ byte ∷ []) bytes)
    (fed_outcomes place_of 0 Linear (before ++ byte ∷ []) bytes) tail all
    (sym (append_assoc (ended_outcomes (place_of before) 0 Linear (ended_message before byte)) _ tail) ∙ is)
    (λ later is. bytes_come place_of (before ++ byte ∷ []) bytes tail later is)

given_of : (cs : List PlannedData) (tail : List Outcome) → given (all_given cs ++ tail) ≡ cs ++ given tail
given_of [] tail = refl
given_of (c ∷ cs) tail = ap (λ (x : List PlannedData). c ∷ x) (given_of cs tail)

none_given : (t : Bool) (at : Place) → given (cond t (Fails at kind.Cut ∷ []) []) ≡ []
none_given true at = refl
none_given false at = refl

-- a stream without a fault
pub record StreamComes (stream : List ℕ) : Type 0 where
  pub commands : List CommandData
  pub in_stream : commands_in stream ≡ planned_at_once commands
  pub in_track : flat_map told (ended_messages stream) ≡ all_come (plays_at_once commands)
  pub kept : AreKept (ended_messages stream)

pub stream_comes : (stream : List ℕ) → stream_outcomes stream ≡ all_given (commands_in stream) → StreamComes stream
unfolding stream_outcomes
stream_comes stream is =
    let by = bytes_come (λ before. place.Byte (begun_at before)) [] stream (stream_end stream) (commands_in stream) is in
    record {
      commands = by.commands;
      in_stream = ap (λ (x : List Outcome). given (x ++ stream_end stream)) by.in_stream
          ∙ given_of (planned_at_once by.commands) (stream_end stream)
          ∙ ap (λ (x : List PlannedData). planned_at_once by.commands ++ x) (none_given (is_unfinished stream) (place.Byte (begun_at stream)))
          ∙ append-nil (planned_at_once by.commands);
      in_track = by.in_track;
      kept = by.kept;
    }

abbrev pub all_messages : List (List ℕ) → List EndedMessage
all_messages streams = flat_map ended_messages streams

-- streams without a fault, all their messages one after the other
pub record BankComes (streams : List (List ℕ)) : Type 0 where
  pub commands : List CommandData
  pub in_streams : bank_commands streams ≡ planned_at_once commands
  pub in_track : flat_map told (all_messages streams) ≡ all_come (plays_at_once commands)
  pub kept : AreKept (all_messages streams)
  pub sound : AreSound (all_messages streams)

kept_both : (es fs : List EndedMessage) → AreKept es → AreKept fs → AreKept (es ++ fs)
kept_both [] fs a b = b
kept_both (e ∷ es) fs a b = (a.0, kept_both es fs a.1 b)

sound_both : (es fs : List EndedMessage) → AreSound es → AreSound fs → AreSound (es ++ fs)
sound_both [] fs a b = b
sound_both (e ∷ es) fs a b = (a.0, sound_both es fs a.1 b)

planned_both : (cs ds : List CommandData) → planned_at_once (cs ++ ds) ≡ planned_at_once cs ++ planned_at_once ds
planned_both cs ds = map-append (planned_at 0) cs ds

pub bank_comes : (streams : List (List ℕ)) → AreFaultless streams → AreSoundStreams streams → BankComes streams
bank_comes [] faultless sound = record { commands = []; in_streams = refl; in_track = refl; kept = tt; sound = tt }
bank_comes (stream ∷ streams) faultless sound =
    let first = stream_comes stream faultless.0 in
    let rest = bank_comes streams faultless.1 sound.1 in
    record {
      commands = first.commands ++ rest.commands;
      in_streams = ap (λ (x : List PlannedData). x ++ bank_commands streams) first.in_stream
          ∙ ap (λ (x : List PlannedData). planned_at_once first.commands ++ x) rest.in_streams ∙ sym (planned_both first.commands rest.commands);
      in_track = flat_map-append told (ended_messages stream) (all_messages streams)
          ∙ ap (λ (x : List TrackOutcome). x ++ flat_map told (all_messages streams)) first.in_track
          ∙ ap (λ (x : List TrackOutcome). all_come (plays_at_once first.commands) ++ x) rest.in_track ∙ sym (come_both first.commands rest.commands);
      kept = kept_both (ended_messages stream) (all_messages streams) first.kept rest.kept;
      sound = sound_both (ended_messages stream) (all_messages streams) sound.0 rest.sound;
    }
