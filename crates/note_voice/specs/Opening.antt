-- The opening voice, in which operator 1 sounds alone.
use Rattle.std.specs.Prelude.{ℕ, ◌≡◌, ◌≤◌, pos}
use Rattle.voice_record.specs.Voice.{opening_voice}
use Rattle.algorithm_bus.specs.Signals.{signal}
use Rattle.note_voice.specs.Note.{NoteData, note_input, pitch_shift_in, attenuation_in, modulation_in}

-- operators 2 to 6 have only samples 0, whatever the key, the release and what moves the note
abbrev pub OthersAreSilent : NoteData → Type 0
OthersAreSilent n = (i j operator : ℕ) → 2 ≤ operator → operator ≤ 6 → signal (note_input n i) operator j ≡ pos 0

-- nothing moves the pitch of a block with no bend and no wheel, and nothing attenuates a level
abbrev pub IsUnmodulated : NoteData → Type 0
IsUnmodulated n = (i : ℕ) → (modulation_in n.past i).bend ≡ 8192 → (modulation_in n.past i).wheel ≡ 0 → pitch_shift_in n i ≡ pos 0

abbrev pub HasNoAttenuation : NoteData → Type 0
HasNoAttenuation n = (operator i : ℕ) → 1 ≤ operator → operator ≤ 6 → attenuation_in n operator i ≡ pos 0

-- what holds of each note of the opening voice
pub record IsPlain (n : NoteData) : Type 0 where
  pub others_are_silent : OthersAreSilent n
  pub is_unmodulated : IsUnmodulated n
  pub has_no_attenuation : HasNoAttenuation n

abbrev pub OpeningIsPlain : Type 0
OpeningIsPlain = (n : NoteData) → n.voice ≡ opening_voice → IsPlain n
