-- The editing history: the voice, what an act, an undo and a redo make of it, and the command that each answers.
use Rattle.std.specs.Prelude.{ℕ, ◌≡◌, List, [], ◌∷◌, take, slice_index, Option, Some, None, option_map}
use Rattle.command_set.specs.Command.{CommandData, SetsParameter, LoadsVoice}

-- what an act changes: one parameter, or the whole voice
pub data Kind : Type 0 where
  OneParameter : ℕ → Kind
  WholeVoice : Kind

-- a voice that the editor had, and the kind of the act between it and the one that the editor had next
pub record Left : Type 0 where
  pub voice : List ℕ
  pub kind : Kind

abbrev pub left : List ℕ → Kind → Left
left voice kind = record { voice = voice; kind = kind }

-- how many acts can be undone at most, the voice, what undo comes back to and what redo comes back to, each with the latest first
pub record History : Type 0 where
  pub depth : ℕ
  pub voice : List ℕ
  pub past : List Left
  pub future : List Left

-- an editor that has done nothing
abbrev pub begun : List ℕ → ℕ → History
begun voice depth = record { depth = depth; voice = voice; past = []; future = [] }

-- an act: the old voice is the latest of the past, of which the latest up to the depth are kept, and nothing can be redone
abbrev pub acted : History → Kind → List ℕ → History
acted h kind voice = record {
  depth = h.depth;
  voice = voice;
  past = take h.depth (left h.voice kind ∷ h.past);
  future = [];
}

-- the command that makes the voice what it has become: the parameter that was changed, or the whole voice
abbrev pub answer : Kind → List ℕ → CommandData
answer (OneParameter number) voice = SetsParameter number (slice_index voice number)
answer WholeVoice voice = LoadsVoice voice

-- a revision from one list to the other: the voice, the two lists, and the command that is answered
pub record Revision : Type 0 where
  pub voice : List ℕ
  pub from : List Left
  pub to : List Left
  pub command : CommandData

-- the latest voice of the one list is the voice again, and the present one is the latest of the other list, with the same kind
abbrev pub revision : List ℕ → List Left → List Left → Option Revision
revision voice [] to = None
revision voice (l ∷ from) to = Some (record { voice = l.voice; from = from; to = left voice l.kind ∷ to; command = answer l.kind l.voice })

-- an undo and its command, where there is something in the past
abbrev pub undone : History → Option (History × CommandData)
undone h = option_map (λ s. (record h { voice = s.voice; past = s.from; future = s.to }, s.command)) (revision h.voice h.past h.future)

-- a redo and its command, where there is something in the future: the same with the lists exchanged
abbrev pub redone : History → Option (History × CommandData)
redone h = option_map (λ s. (record h { voice = s.voice; past = s.to; future = s.from }, s.command)) (revision h.voice h.future h.past)

-- the latest is the voice before a rename or a load
abbrev pub IsWholeNext : List Left → Type 0
IsWholeNext [] = ⊥
IsWholeNext (l ∷ ls) = l.kind ≡ WholeVoice
