-- What is written after the sound file's bytes and the order file's while the turns run.
use Rattle.std.specs.Prelude.{◌≡◌, ℕ, List, Option, Result, MatchResult, option_map, take}
use Rattle.std.specs.List.{flat_map}
use Rattle.command_set.specs.Entries.{LoggedData}
use Rattle.outside.specs.Files.{Files, appended}
use Rattle.outside.specs.Faults.{HasFailed}
use Rattle.take_files.specs.Files.{order_line}
use Rattle.turns.specs.declared.target.Target.{Target}
use Rattle.turns.specs.declared.target.Target.TheVariants as target

-- the lines of a journal
abbrev pub order_lines : List LoggedData → List ℕ
order_lines journal = flat_map order_line journal

-- the files with some bytes after the sound's own, and some after the order's
abbrev pub both_appended : List ℕ → List ℕ → List ℕ → List ℕ → Files → Files
both_appended sound samples order lines files = appended order lines (appended sound samples files)

-- Of the bytes that belong after the sound's own a prefix was appended, and so was a prefix of those that belong after the order's. All
-- other files are as before.
abbrev pub BothBegun : List ℕ → List ℕ → List ℕ → List ℕ → Option Files → Option Files → Type 0
BothBegun sound samples order lines before now =
    (m n : ℕ) × (now ≡ option_map (both_appended sound (take m samples) order (take n lines)) before)

-- nothing is held back of the two files
abbrev pub HoldsNothing : (List ℕ → ℕ) → List ℕ → List ℕ → Type 0
HoldsNothing held sound order = (held sound ≡ 0) × (held order ≡ 0)

-- the name of the file that could not be written
abbrev pub name_of : Target → List ℕ → List ℕ → List ℕ
name_of target.Sound sound order = sound
name_of target.Order sound order = order

-- where a call failed, just one write did, of the file that the call tells; else none did
abbrev pub Blames : {T : Type 0} → Result T Target → List ℕ → List ℕ → Option (List (List ℕ)) → Option (List (List ℕ)) → Type 0
Blames result sound order before now = MatchResult result (λ _. now ≡ before) (λ which. HasFailed (name_of which sound order) before now)
