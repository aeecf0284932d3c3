-- Files that a command reads to their end, and files of which nothing is held back.
use Rattle.std.specs.Prelude.{ℕ, ◌≡◌, ◌+◌, ◌-◌, ◌^◌, min, List, [], ◌∷◌, length, Option, Some, IfSome}
use Rattle.outside.specs.Files.{Files, content, file_of}
use Rattle.outside.specs.Faults.{more_by}
use Rattle.tool_core.specs.Effects.{Output, scripts_of}
use Rattle.tool_core.specs.Words.{RequestData, Check, ListVoices, Pick, Pack, Replay, Verify, Gen, Bench}

-- reads gave each byte of the named file, and each of them once
abbrev pub GaveAll : Option Files → List ℕ → ℕ → ℕ → Type 0
GaveAll files name before now = (file : List ℕ) → file_of files name ≡ Some file → now ≡ more_by before (length file)

-- reads gave so many bytes since some count of them; where the count has come to its end, it stays
abbrev pub HasGiven : ℕ → ℕ → ℕ → Type 0
HasGiven before count now = min now (2 ^ 64 - 1) ≡ more_by before count

-- a command on an order read the whole order, and `verify` the whole sound file too, whatever it found
abbrev pub ReadsWhole : RequestData → Option Files → ℕ → ℕ → Type 0
ReadsWhole (Check file) files before now = Unit {0}
ReadsWhole (ListVoices file) files before now = Unit {0}
ReadsWhole (Pick file slot out) files before now = Unit {0}
ReadsWhole (Pack out names) files before now = Unit {0}
ReadsWhole (Replay order out) files before now = IfSome files (λ told. now ≡ more_by before (length (content told order)))
ReadsWhole (Verify order sound) files before now =
    IfSome files (λ told. now ≡ more_by before (length (content told order) + length (content told sound)))
ReadsWhole (Gen seed scripts commands) files before now = Unit {0}
ReadsWhole (Bench seed blocks) files before now = Unit {0}

-- nothing is held back of these files
abbrev pub HoldsNone : List Output → (List ℕ → ℕ) → Type 0
HoldsNone [] held = Unit {0}
HoldsNone (one ∷ later) held = (held one.name ≡ 0) × HoldsNone later held

-- nothing is held back of the files that a command writes
abbrev pub HoldsNothing : RequestData → (List ℕ → ℕ) → Type 0
HoldsNothing (Check file) held = Unit {0}
HoldsNothing (ListVoices file) held = Unit {0}
HoldsNothing (Pick file slot out) held = held out ≡ 0
HoldsNothing (Pack out names) held = held out ≡ 0
HoldsNothing (Replay order out) held = held out ≡ 0
HoldsNothing (Verify order sound) held = Unit {0}
HoldsNothing (Gen seed scripts commands) held = HoldsNone (scripts_of seed commands scripts) held
HoldsNothing (Bench seed blocks) held = Unit {0}
