-- The kept changes, and the history that they and the present voice stand for.
use Rattle.std.specs.Prelude.{ℕ, ◌≡◌, ◌+◌, ◌≤◌, List, [], ◌∷◌, length, slice_set}
use Rattle.circular_buffer.specs.Buffer.{Buffer}
use Rattle.command_set.specs.Command.{CommandData, SetsParameter, LoadsVoice}
use Rattle.editor.specs.declared.change.Change.{Change}
use Rattle.editor.specs.declared.change.Change.TheVariants.{Parameter, Whole}
use Rattle.editor.specs.History.{Kind, OneParameter, WholeVoice, Left, left, History}

abbrev pub kind_of : Change → Kind
kind_of (Parameter s) = OneParameter s.number
kind_of (Whole boxed) = WholeVoice

-- the voice on the other side of a change
abbrev pub other_voice : List ℕ → Change → List ℕ
other_voice voice (Parameter s) = slice_set voice s.number s.value
other_voice voice (Whole boxed) = boxed.value

-- the command that makes the change
abbrev pub command_of : Change → CommandData
command_of (Parameter s) = SetsParameter s.number s.value
command_of (Whole boxed) = LoadsVoice boxed.value

-- the voices that the editor had, each made from the one after it
abbrev pub left_by : List ℕ → List Change → List Left
left_by voice [] = []
left_by voice (c ∷ cs) = left (other_voice voice c) (kind_of c) ∷ left_by (other_voice voice c) cs

-- the history of a voice with the changes that lead back and those that lead on
abbrev pub history_of : List ℕ → Buffer Change → Buffer Change → History
history_of voice past future = record {
  depth = past.capacity;
  voice = voice;
  past = left_by voice past.items;
  future = left_by voice future.items;
}

-- the two rings have the same room, and hold no more together than one of them can
pub record AreRings (past future : Buffer Change) : Type 0 where
  pub same : future.capacity ≡ past.capacity
  pub room : length past.items + length future.items ≤ past.capacity

-- neither the voice nor a ring has changed
pub record IsSame (old_voice new_voice : List ℕ) (old_past new_past old_future new_future : Buffer Change) : Type 0 where
  pub voice : new_voice ≡ old_voice
  pub past : new_past ≡ old_past
  pub future : new_future ≡ old_future
