-- For private functions and proofs: why some files can't be packed.
use Rattle.std.specs.Prelude.{ℕ, ◌≡◌, List, [], map, take, slice_index_or, Option, IfSome}
use Rattle.outside.specs.Files.{Files}
use Rattle.tool_core.specs.declared.failure.Failure.{Failure}
use Rattle.tool_core.specs.Refusals.{OneVoice}
use Rattle.tool_core.specs.Inputs.{Input, Midi, input, AreGood}
use Rattle.tool_core.specs.Failures.{IsReason, UnlessMemory}

-- the files of these names, each with a voice
abbrev pub voices : List (List ℕ) → List Input
voices names = map (λ name. input name (Midi OneVoice)) names

-- the file at this place is the first that doesn't serve, and why
pub record IsBadAt (place : ℕ) (why : Failure) (files : Option Files) (names : List (List ℕ)) (before now : ℕ) : Type 0 where
  pub good : IfSome files (λ told. AreGood (voices (take place names)) told)
  pub reason : IsReason why (Midi OneVoice) files (slice_index_or names place []) before now

-- the same, or memory was wanting
abbrev pub IsPackFailure : ℕ → Failure → Option Files → List (List ℕ) → ℕ → ℕ → Type 0
IsPackFailure place why files names before now = UnlessMemory why (IsBadAt place why files names before now) (now ≡ before)
