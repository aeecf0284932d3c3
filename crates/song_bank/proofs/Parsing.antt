-- The events of messages are read as these messages.
use Rattle.std.proofs.Common.{◌≡◌, ℕ, zero, suc, ◌+◌, ◌-◌, ◌*◌, ◌/◌, ◌%◌, ◌<◌, ◌≤◌, List, [], ◌∷◌, ◌++◌, length, take, drop, map, Bool, true, false, cond, refl}
use Rattle.std.proofs.Common.{ap, sym, ◌∙◌, subst, arith, append_assoc, append-nil, length-append, lt-ltb}
use Rattle.std.proofs.lemmas.Bool.{le-ltb, le-leb, ne_eqb}
use Rattle.std.proofs.lemmas.List.{take_at, drop_at}
use Rattle.std.specs.Prelude.{nat_lt, nat_le, nat_eq, ◌==◌, ◌&&◌}
use Rattle.std.specs.List.{flat_map}
use Rattle.velocity_map.specs.declared.curve.Curve.TheVariants.{Linear}
use Rattle.command_set.specs.Message.{MessageOutcome, command_of}
use Rattle.midi_stream.specs.declared.message.MidiMessage.{MidiMessage}
use Rattle.midi_stream.specs.declared.message.MidiMessage.TheVariants.{NoteOff, NoteOn, KeyPressure, Control, Program, ChannelPressure, Bend, SysEx}
use Rattle.midi_stream.specs.declared.message.MidiMessage.TheVariants.{SysExTooLong}
use Rattle.midi_stream.specs.Messages.{message_of_one, message_of_two, has_one_data_byte, sysex_message}
use Rattle.midi_stream.specs.Ranges.{InRange}
use Rattle.midi_stream.specs.Ended.{EndedMessage}
use Rattle.midi_file.specs.Bytes.{Parsed, Got, Lacks, counted_bytes, data_byte, quantity, quantity_after, so_many}
use Rattle.midi_file.specs.Event.{KindData, ChannelMessage, Feeds, EndsTrack, EventData, EventRead, Event, Broken, event_of, after, first_event, second_event}
use Rattle.midi_file.specs.Event.{channel_event, exclusive_event, meta_event, event_after, event_at}
use Rattle.midi_file.specs.Track.{Found, Stands, ends_track, found_at, events_in, TrackOutcome, fed_by, message_outcomes, event_outcomes, events_outcomes}
use Rattle.song_bank.specs.Event.{ended_event, message_event, one_byte_event, quantity_bytes, sysex_event, two_byte_event}
use Rattle.song_bank.specs.Song.{end_of_track}
use Rattle.song_bank.specs.Sound.{AreData, AreSound, IsFramed, IsWhole}
use Rattle.song_bank.proofs.Places.{bare, bare_both, event_bare, message_bare, none_follow, stands_first}
use Rattle.song_bank.proofs.Fed.{sysex_fed}

-- ---- channel events

no_delta : (running : ℕ) (bytes : List ℕ) → event_at running (0 ∷ bytes) ≡ event_after running 0 bytes
unfolding event_at quantity_after
no_delta running bytes = refl

by_status : (running status : ℕ) (bytes : List ℕ) → 128 ≤ status → status < 240 → event_after running 0 (status ∷ bytes) ≡ channel_event 0 status bytes
unfolding event_after
by_status running status bytes low high = rw (le-ltb status 128 low, lt-ltb status 240 high) refl

is_data_byte : (byte : ℕ) (bytes : List ℕ) → byte < 128 → data_byte (byte ∷ bytes) ≡ Got byte bytes
is_data_byte byte bytes low = rw (lt-ltb byte 128 low) refl

one_byte : (status first : ℕ) (rest : List ℕ) → has_one_data_byte status ≡ true → first < 128
    → channel_event 0 status (first ∷ rest) ≡ Event (event_of 0 (ChannelMessage (message_of_one status first)) status rest)
unfolding channel_event
one_byte status first rest one low = rw (is_data_byte first rest low, one) refl

two_bytes : (status first second : ℕ) (rest : List ℕ) → has_one_data_byte status ≡ false → first < 128 → second < 128
    → channel_event 0 status (first ∷ second ∷ rest) ≡ Event (event_of 0 (ChannelMessage (message_of_two status first second)) status rest)
unfolding channel_event
two_bytes status first second rest two low low' = rw (is_data_byte first (second ∷ rest) low, two, is_data_byte second rest low') refl

pub one_read : (running status channel first : ℕ) (rest : List ℕ) → 192 ≤ status → status ≤ 208 → channel ≤ 15 → first < 128
    → event_at running (one_byte_event status channel first ++ rest) ≡ Event
    (event_of 0 (ChannelMessage (message_of_one (status + channel) first)) (status + channel) rest)
one_read running status channel first rest from to low one_low =
    no_delta running ((status + channel) ∷ first ∷ rest)
    ∙ by_status running (status + channel) (first ∷ rest) (omega arith) (omega arith)
    ∙ one_byte (status + channel) first rest (rw (le-leb 192 (status + channel) (omega arith), lt-ltb (status + channel) 224 (omega arith)) refl) one_low

pub two_read : (running status channel first second : ℕ) (rest : List ℕ) → 128 ≤ status → status ≤ 224 → channel ≤ 15
    → has_one_data_byte (status + channel) ≡ false → first < 128 → second < 128
    → event_at running (two_byte_event status channel first second ++ rest) ≡ Event
    (event_of 0 (ChannelMessage (message_of_two (status + channel) first second)) (status + channel) rest)
two_read running status channel first second rest from to low two one_low two_low =
    no_delta running ((status + channel) ∷ first ∷ second ∷ rest)
    ∙ by_status running (status + channel) (first ∷ second ∷ rest) (omega arith) (omega arith)
    ∙ two_bytes (status + channel) first second rest two one_low two_low

below_192 : (status : ℕ) → status < 192 → has_one_data_byte status ≡ false
below_192 status low = by_test (nat_le 192 status) refl
  where
    by_test : (t : Bool) → nat_le 192 status ≡ t → has_one_data_byte status ≡ false
    by_test true is = search (arith, is)
    by_test false is = rw is refl

from_224 : (status : ℕ) → 224 ≤ status → has_one_data_byte status ≡ false
from_224 status high = by_test (nat_le 192 status) refl
  where
    by_test : (t : Bool) → nat_le 192 status ≡ t → has_one_data_byte status ≡ false
    by_test true is = rw (is, le-ltb status 224 high) refl
    by_test false is = rw is refl

-- ---- the messages that they are

sixteenth : (status channel : ℕ) → status % 16 ≡ 0 → channel ≤ 15 → (status + channel) % 16 ≡ channel
sixteenth status channel whole low = omega arith

note_off_is : (channel key velocity : ℕ) → channel ≤ 15 → message_of_two (128 + channel) key velocity ≡ NoteOff channel key
unfolding message_of_two
note_off_is channel key velocity low =
    let s : (128 + channel) % 16 ≡ channel = sixteenth 128 channel refl low in
    rw (lt-ltb (128 + channel) 144 (omega arith), s) refl

note_on_is : (channel key velocity : ℕ) → channel ≤ 15 → 1 ≤ velocity → message_of_two (144 + channel) key velocity ≡ NoteOn channel key velocity
unfolding message_of_two
note_on_is channel key zero low some = absurd (omega arith)
note_on_is channel key (suc velocity) low some =
    let s : (144 + channel) % 16 ≡ channel = sixteenth 144 channel refl low in
    let z : (suc velocity == 0) ≡ false = ne_eqb (suc velocity) 0 (λ e. omega arith) in
    rw (le-ltb (144 + channel) 144 (omega arith), lt-ltb (144 + channel) 160 (omega arith), z, s) refl

pressure_is : (channel key value : ℕ) → channel ≤ 15 → message_of_two (160 + channel) key value ≡ KeyPressure channel key value
unfolding message_of_two
pressure_is channel key value low =
    let s : (160 + channel) % 16 ≡ channel = sixteenth 160 channel refl low in
    rw (le-ltb (160 + channel) 144 (omega arith), le-ltb (160 + channel) 160 (omega arith), lt-ltb (160 + channel) 176 (omega arith), s) refl

control_is : (channel number value : ℕ) → channel ≤ 15 → message_of_two (176 + channel) number value ≡ Control channel number value
unfolding message_of_two
control_is channel number value low =
    let s : (176 + channel) % 16 ≡ channel = sixteenth 176 channel refl low in
    rw (
      le-ltb (176 + channel) 144 (omega arith),
      le-ltb (176 + channel) 160 (omega arith),
      le-ltb (176 + channel) 176 (omega arith),
      lt-ltb (176 + channel) 192
          (omega arith),
      s,
    ) refl

bend_is : (channel value : ℕ) → channel ≤ 15 → message_of_two (224 + channel) (value % 128) (value / 128) ≡ Bend channel value
unfolding message_of_two
bend_is channel value low =
    let s : (224 + channel) % 16 ≡ channel = sixteenth 224 channel refl low in
    let v : value % 128 + 128 * (value / 128) ≡ value = omega arith in
    rw (
      le-ltb (224 + channel) 144 (omega arith),
      le-ltb (224 + channel) 160 (omega arith),
      le-ltb (224 + channel) 176 (omega arith),
      le-ltb (224 + channel) 192
          (omega arith),
      s,
      v,
    ) refl

program_is : (channel number : ℕ) → channel ≤ 15 → message_of_one (192 + channel) number ≡ Program channel number
unfolding message_of_one
program_is channel number low =
    let s : (192 + channel) % 16 ≡ channel = sixteenth 192 channel refl low in
    rw (lt-ltb (192 + channel) 208 (omega arith), s) refl

channel_pressure_is : (channel value : ℕ) → channel ≤ 15 → message_of_one (208 + channel) value ≡ ChannelPressure channel value
unfolding message_of_one
channel_pressure_is channel value low =
    let s : (208 + channel) % 16 ≡ channel = sixteenth 208 channel refl low in
    rw (le-ltb (208 + channel) 208 (omega arith), s) refl

-- ---- SysEx events

one_digit : (n : ℕ) → 0 * 128 + n ≡ n
one_digit n = omega arith

two_digits : (n : ℕ) → (0 * 128 + (128 + n / 128 - 128)) * 128 + n % 128 ≡ n
two_digits n = omega arith

quantity_read : (n : ℕ) (rest : List ℕ) → n < 16384 → quantity (quantity_bytes n ++ rest) ≡ Got n rest
unfolding quantity_after quantity_bytes
quantity_read n rest small = by_test (nat_lt n 128) refl
  where
    by_test : (t : Bool) → nat_lt n 128 ≡ t → quantity (cond t (n ∷ []) ((128 + n / 128) ∷ n % 128 ∷ []) ++ rest) ≡ Got n rest
    by_test true is = rw is (ap (λ (m : ℕ). Got m rest) (one_digit n))
    by_test false is =
        let high : nat_lt (128 + n / 128) 128 ≡ false = le-ltb (128 + n / 128) 128 (omega arith) in
        let low : nat_lt (n % 128) 128 ≡ true = lt-ltb (n % 128) 128 (omega arith) in
        rw (high, low) (ap (λ (m : ℕ). Got m rest) (two_digits n))

counted_read : (bytes rest : List ℕ) → length bytes < 16384 → counted_bytes (quantity_bytes (length bytes) ++ (bytes ++ rest)) ≡ Got bytes rest
unfolding counted_bytes
counted_read bytes rest small =
    let l : length (bytes ++ rest) ≡ length bytes + length rest = length-append bytes rest in
    let all : nat_lt (length (bytes ++ rest)) (length bytes) ≡ false = le-ltb (length (bytes ++ rest)) (length bytes) (omega arith) in
    let first : take (length bytes) (bytes ++ rest) ≡ bytes = take_at bytes rest (length bytes) refl in
    let later : drop (length bytes) (bytes ++ rest) ≡ rest = drop_at bytes rest (length bytes) refl in
    ap so_many (quantity_read (length bytes) (bytes ++ rest) small) ∙ rw (all, first, later) refl

sysex_after : (running : ℕ) (bytes : List ℕ) → event_after running 0 (240 ∷ bytes) ≡ exclusive_event 0 (240 ∷ []) bytes
unfolding event_after
sysex_after running bytes = refl

exclusive_read : (bytes rest : List ℕ) → length bytes < 16384
    → exclusive_event 0 (240 ∷ []) (quantity_bytes (length bytes) ++ (bytes ++ rest)) ≡ Event (event_of 0 (Feeds (240 ∷ bytes)) 0 rest)
unfolding exclusive_event
exclusive_read bytes rest small = rw (counted_read bytes rest small) refl

pub sysex_read : (running : ℕ) (held rest : List ℕ) → length (240 ∷ held ++ 247 ∷ []) ≤ 5000
    → event_at running (sysex_event (240 ∷ held ++ 247 ∷ []) ++ rest) ≡ Event (event_of 0 (Feeds (240 ∷ held ++ 247 ∷ [])) 0 rest)
unfolding sysex_event
sysex_read running held rest small =
    let count : length (240 ∷ held ++ 247 ∷ []) - 1 ≡ length (held ++ 247 ∷ []) = omega arith in
    let short : length (held ++ 247 ∷ []) < 16384 = omega arith in
    let shape : sysex_event (240 ∷ held ++ 247 ∷ []) ++ rest ≡ 0 ∷ 240 ∷ quantity_bytes (length (held ++ 247 ∷ [])) ++ ((held ++ 247 ∷ []) ++ rest) =
    ap (λ (q : List ℕ). 0 ∷ 240 ∷ q) (append_assoc (quantity_bytes (length (240 ∷ held ++ 247 ∷ []) - 1)) (held ++ 247 ∷ []) rest
    ∙ ap (λ (n : ℕ). quantity_bytes n ++ ((held ++ 247 ∷ []) ++ rest)) count) in
    ap (event_at running) shape
    ∙ no_delta running (240 ∷ quantity_bytes (length (held ++ 247 ∷ [])) ++ ((held ++ 247 ∷ []) ++ rest))
    ∙ sysex_after running (quantity_bytes (length (held ++ 247 ∷ [])) ++ ((held ++ 247 ∷ []) ++ rest))
    ∙ exclusive_read (held ++ 247 ∷ []) rest short

-- ---- a message's event

-- what happens by a message at the first tick
abbrev pub told : EndedMessage → List TrackOutcome
told e = message_outcomes 0 0 (command_of e.message e.bytes Linear)

-- the event of a message is read, whatever its running status and what comes after it, and comes to what the message tells
pub record IsReadBack (running : ℕ) (e : EndedMessage) (rest : List ℕ) : Type 0 where
  pub does : KindData
  pub next : ℕ
  pub read : event_at running (ended_event e ++ rest) ≡ Event (event_of 0 does next rest)
  pub goes_on : ends_track does ≡ false
  pub comes : (at : ℕ) (fed : List ℕ) → bare (event_outcomes 0 at fed does) ≡ bare (told e)
  pub some : 0 < length (ended_event e)

-- it isn't too long for its bytes to be kept
abbrev pub IsKept : MidiMessage → Type 0
IsKept (NoteOff channel key) = Unit {0}
IsKept (NoteOn channel key velocity) = Unit {0}
IsKept (KeyPressure channel key value) = Unit {0}
IsKept (Control channel number value) = Unit {0}
IsKept (Program channel number) = Unit {0}
IsKept (ChannelPressure channel value) = Unit {0}
IsKept (Bend channel value) = Unit {0}
IsKept (SysEx count) = Unit {0}
IsKept (SysExTooLong count) = ⊥

abbrev as_ended : MidiMessage → List ℕ → EndedMessage
as_ended m bytes = record { message = m; bytes = bytes }

channel_back : (running next : ℕ) (m : MidiMessage) (bytes rest : List ℕ) (read_as : MidiMessage) → read_as ≡ m
    → event_at running (message_event m bytes ++ rest) ≡ Event (event_of 0 (ChannelMessage read_as) next rest)
    → command_of m [] Linear ≡ command_of m bytes Linear → 0 < length (message_event m bytes)
    → IsReadBack running (as_ended m bytes) rest
channel_back running next m bytes rest read_as is read same some = record {
  does = ChannelMessage m;
  next = next;
  read = read ∙ ap (λ (x : MidiMessage). Event (event_of 0 (ChannelMessage x) next rest)) is;
  goes_on = refl;
  comes = λ at fed. message_bare 0 at 0 (command_of m [] Linear) ∙ ap (λ (o : MessageOutcome). bare (message_outcomes 0 0 o)) same;
  some = some;
}

framed_count : (count : ℕ) (held : List ℕ) → count ≤ 5000 → length (240 ∷ held ++ 247 ∷ []) ≡ count → sysex_message (length held + 2) ≡ SysEx count
framed_count count held small is =
    let l : length (held ++ 247 ∷ []) ≡ length held + 1 = length-append held (247 ∷ []) in
    let n : length held + 2 ≡ count = omega arith in
    rw (n, le-leb count 5000 small) refl

some_sysex : (bytes : List ℕ) → 0 < length (sysex_event bytes)
unfolding sysex_event
some_sysex bytes = omega arith

sysex_back : (running count : ℕ) (held rest : List ℕ) → count ≤ 5000 → length (240 ∷ held ++ 247 ∷ []) ≡ count → AreData held
    → IsReadBack running (as_ended (SysEx count) (240 ∷ held ++ 247 ∷ [])) rest
unfolding message_event
sysex_back running count held rest small is are = record {
  does = Feeds (240 ∷ held ++ 247 ∷ []);
  next = 0;
  read = sysex_read running held rest (omega arith);
  goes_on = refl;
  comes = λ at fed. ap bare (sysex_fed 0 at fed held are)
      ∙ message_bare 0 at 0 (command_of (sysex_message (length held + 2)) (240 ∷ held ++ 247 ∷ []) Linear)
      ∙ ap (λ (m : MidiMessage). bare (message_outcomes 0 0 (command_of m (240 ∷ held ++ 247 ∷ []) Linear))) (framed_count count held small is);
  some = some_sysex (240 ∷ held ++ 247 ∷ []);
}

pub read_back : (running : ℕ) (m : MidiMessage) (bytes rest : List ℕ) → InRange m → IsWhole m bytes → IsKept m → IsReadBack running (as_ended m bytes) rest
unfolding message_event command_of
read_back running (NoteOff channel key) bytes rest range whole kept =
    let low : channel ≤ 15 = range.0 in let high : key ≤ 127 = range.1 in
    channel_back running (128 + channel) (NoteOff channel key) bytes rest _ (note_off_is channel key 64 low)
    (two_read running 128 channel key 64 rest (omega arith) (omega arith) low (below_192 (128 + channel) (omega arith)) (omega arith) (omega arith)) refl
    (omega arith)
read_back running (NoteOn channel key velocity) bytes rest range whole kept =
    let low : channel ≤ 15 = range.0 in let high : key ≤ 127 = range.1 in let some : 1 ≤ velocity = range.2 in let top : velocity ≤ 127 = range.3 in
    channel_back running (144 + channel) (NoteOn channel key velocity) bytes rest _ (note_on_is channel key velocity low some)
    (two_read running 144 channel key velocity rest (omega arith) (omega arith) low (below_192 (144 + channel) (omega arith)) (omega arith) (omega arith)) refl
    (omega arith)
read_back running (KeyPressure channel key value) bytes rest range whole kept =
    let low : channel ≤ 15 = range.0 in let high : key ≤ 127 = range.1 in let top : value ≤ 127 = range.2 in
    channel_back running (160 + channel) (KeyPressure channel key value) bytes rest _ (pressure_is channel key value low)
    (two_read running 160 channel key value rest (omega arith) (omega arith) low (below_192 (160 + channel) (omega arith)) (omega arith) (omega arith)) refl
    (omega arith)
read_back running (Control channel number value) bytes rest range whole kept =
    let low : channel ≤ 15 = range.0 in let high : number ≤ 127 = range.1 in let top : value ≤ 127 = range.2 in
    channel_back running (176 + channel) (Control channel number value) bytes rest _ (control_is channel number value low)
    (two_read running 176 channel number value rest (omega arith) (omega arith) low (below_192 (176 + channel) (omega arith)) (omega arith) (omega arith)) refl
    (omega arith)
read_back running (Program channel number) bytes rest range whole kept =
    let low : channel ≤ 15 = range.0 in let high : number ≤ 127 = range.1 in
    channel_back running (192 + channel) (Program channel number) bytes rest _ (program_is channel number low)
    (one_read running 192 channel number rest (omega arith) (omega arith) low (omega arith)) refl (omega arith)
read_back running (ChannelPressure channel value) bytes rest range whole kept =
    let low : channel ≤ 15 = range.0 in let high : value ≤ 127 = range.1 in
    channel_back running (208 + channel) (ChannelPressure channel value) bytes rest _ (channel_pressure_is channel value low)
    (one_read running 208 channel value rest (omega arith) (omega arith) low (omega arith)) refl (omega arith)
read_back running (Bend channel value) bytes rest range whole kept =
    let low : channel ≤ 15 = range.0 in let high : value ≤ 16383 = range.1 in
    channel_back running (224 + channel) (Bend channel value) bytes rest _ (bend_is channel value low)
    (two_read running 224 channel (value % 128) (value / 128) rest (omega arith) (omega arith) low (from_224 (224 + channel) (omega arith)) (omega arith)
    (omega arith)) refl (omega arith)
read_back running (SysEx count) bytes rest range whole kept =
    subst (λ (bs : List ℕ). IsReadBack running (as_ended (SysEx count) bs) rest) (sym whole.frame)
    (sysex_back running count whole.held rest range (ap length (sym whole.frame) ∙ whole.so_many) whole.are_data)
read_back running (SysExTooLong count) bytes rest range whole kept = absurd kept

-- ---- the track

-- each of these is kept
abbrev pub AreKept : List EndedMessage → Type 0
AreKept [] = Unit {0}
AreKept (e ∷ es) = IsKept e.message × AreKept es

end_read : (running : ℕ) → event_at running (0 ∷ 255 ∷ 47 ∷ 0 ∷ []) ≡ Event (event_of 0 EndsTrack running [])
unfolding event_at event_after meta_event counted_bytes quantity_after
end_read running = refl

-- one event and those after it
first_found : (more end running next : ℕ) (bytes rest : List ℕ) (does : KindData) → 0 < length bytes → length bytes ≤ more
    → event_at running bytes ≡ Event (event_of 0 does next rest)
    → (m : ℕ) × (more ≡ m + 1) × (events_in more end running bytes ≡ found_at (end - length bytes) (events_in m end) (Event (event_of 0 does next rest)))
unfolding events_in
first_found zero end running next bytes rest does some fits read = absurd (omega arith)
first_found (suc m) end running next [] rest does some fits read = absurd (omega arith)
first_found (suc m) end running next (byte ∷ bytes) rest does some fits read =
    (m, omega arith, ap (found_at (end - length (byte ∷ bytes)) (events_in m end)) read)

going_on : (at : ℕ) (later : ℕ → List ℕ → List Found) (does : KindData) (next : ℕ) (rest : List ℕ) → ends_track does ≡ false
    → found_at at later (Event (event_of 0 does next rest)) ≡ Stands at (event_of 0 does next rest) ∷ later next rest
going_on at later does next rest on = rw on refl

pub track_read : (es : List EndedMessage) (more end running : ℕ) (fed : List ℕ) → AreSound es → AreKept es
    → length (flat_map ended_event es ++ end_of_track) ≤ more
    → bare (events_outcomes 0 fed (events_in more end running (flat_map ended_event es ++ end_of_track))) ≡ bare (flat_map told es)
track_read [] more end running fed sound kept fits =
    let first = first_found more end running running end_of_track [] EndsTrack (omega arith) fits (end_read running) in
    ap (λ (fs : List Found). bare (events_outcomes 0 fed fs)) first.2
    ∙ ap bare (stands_first 0 (end - length end_of_track) fed (event_of 0 EndsTrack running []) [] ∙ none_follow 0 (fed ++ []))
track_read (e ∷ es) more end running fed sound kept fits =
    let parts : flat_map ended_event (e ∷ es) ++ end_of_track ≡ ended_event e ++ (flat_map ended_event es ++ end_of_track) = append_assoc (ended_event e) _ _ in
    let back : IsReadBack running e (flat_map ended_event es ++ end_of_track) =
    read_back running e.message e.bytes (flat_map ended_event es ++ end_of_track) sound.0.0 sound.0.1 kept.0 in
    let l : length (ended_event e ++ (flat_map ended_event es ++ end_of_track)) ≡ length (ended_event e) + length (flat_map ended_event es ++ end_of_track) =
    length-append (ended_event e) _ in
    let some : 0 < length (ended_event e) = back.some in
    let fits' : length (ended_event e ++ (flat_map ended_event es ++ end_of_track)) ≤ more = subst (λ (bs : List ℕ). length bs ≤ more) parts fits in
    let first = first_found more end running back.next (ended_event e ++ (flat_map ended_event es ++ end_of_track)) (flat_map ended_event es
    ++ end_of_track) back.does (omega arith) fits' back.read in
    let count : more ≡ first.0 + 1 = first.1 in
    ap (λ (bs : List ℕ). bare (events_outcomes 0 fed (events_in more end running bs))) parts
    ∙ ap (λ (fs : List Found). bare (events_outcomes 0 fed fs)) (first.2 ∙ going_on _ (events_in first.0 end) back.does back.next _ back.goes_on)
    ∙ ap bare (stands_first 0 _ fed (event_of 0 back.does back.next (flat_map ended_event es ++ end_of_track))
    (events_in first.0 end back.next (flat_map ended_event es ++ end_of_track)))
    ∙ bare_both _ _ _ _ (back.comes _ fed) (track_read es first.0 end back.next (fed ++ fed_by back.does) sound.1 kept.1 (omega arith))
