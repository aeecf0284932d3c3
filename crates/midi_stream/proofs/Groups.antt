-- The messages of a channel status where one more data byte comes.
use Rattle.std.proofs.Common.{◌≡◌, ◌≢◌, ℕ, ◌<◌, List, [], ◌∷◌, ◌++◌, refl, ap, map}
use Rattle.std.proofs.lemmas.Bool.{lt-ltb}
use Rattle.midi_stream.specs.declared.message.MidiMessage.{MidiMessage}
use Rattle.midi_stream.specs.Segments.{Segment}
use Rattle.midi_stream.specs.Messages.{message_of_one, message_of_two, by_twos, after_twos, channel_messages, segment_messages}
use Rattle.midi_stream.specs.Standing.{IsChannel}

-- the first of two data bytes
pub record IsFirst (status : ℕ) (bytes : List ℕ) (b : ℕ) : Type 0 where
  pub same : by_twos status (bytes ++ b ∷ []) ≡ by_twos status bytes
  pub left : after_twos (bytes ++ b ∷ []) ≡ b ∷ []

pub first_of_two : (status : ℕ) (bytes : List ℕ) (b : ℕ) → after_twos bytes ≡ [] → IsFirst status bytes b
first_of_two status [] b e = record { same = refl; left = refl }
first_of_two status (x ∷ []) b e = cc
first_of_two status (x ∷ y ∷ later) b e =
    let h = first_of_two status later b e in
    record { same = ap (λ (l : List MidiMessage). message_of_two status x y ∷ l) h.same; left = h.left }

-- the second of two data bytes
pub record IsSecond (status : ℕ) (bytes : List ℕ) (first b : ℕ) : Type 0 where
  pub more : by_twos status (bytes ++ b ∷ []) ≡ by_twos status bytes ++ message_of_two status first b ∷ []
  pub left : after_twos (bytes ++ b ∷ []) ≡ []

pub second_of_two : (status : ℕ) (bytes : List ℕ) (first b : ℕ) → after_twos bytes ≡ first ∷ [] → IsSecond status bytes first b
second_of_two status [] first b e = cc
second_of_two status (x ∷ []) first b e =
    let s : x ≡ first = cc in
    record { more = ap (λ (n : ℕ). message_of_two status n b ∷ []) s; left = refl }
second_of_two status (x ∷ y ∷ later) first b e =
    let h = second_of_two status later first b e in
    record { more = ap (λ (l : List MidiMessage). message_of_two status x y ∷ l) h.more; left = h.left }

pub one_more : (status : ℕ) (bytes : List ℕ) (b : ℕ) → map (message_of_one status) (bytes ++ b ∷ []) ≡ map (message_of_one status) bytes
    ++ message_of_one status b ∷ []
one_more status [] b = refl
one_more status (x ∷ later) b = ap (λ (l : List MidiMessage). message_of_one status x ∷ l) (one_more status later b)

pub not_empty : (bytes : List ℕ) (b : ℕ) → bytes ++ b ∷ [] ≢ []
not_empty [] b = λ e. cc
not_empty (x ∷ bytes) b = λ e. cc

-- what a channel segment gives, whatever comes next
pub channel_segment : (status next : ℕ) (segment : Segment) → IsChannel status segment
    → segment_messages segment next ≡ channel_messages status segment.data_bytes
channel_segment status next segment h =
    let e = h.same in
    let lt : status < 240 = h.high in
    rw (e, lt-ltb status 240 lt)
