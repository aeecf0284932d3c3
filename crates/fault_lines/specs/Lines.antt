-- Lines in which a program tells what went wrong, and what an output shows once a line was put.
use Rattle.std.specs.Prelude.{◌≡◌, ◌⊎◌, ℕ, ◌≤◌, List, [], ◌∷◌, ◌++◌, Option, option_map, codes}
use Rattle.outside.specs.Files.{said, SaidSome}
use Rattle.outside.specs.Faults.{Rose}

-- the line was added, or the output failed and some of it was added, a prefix of it
abbrev pub Says : List ℕ → Option (List ℕ) → Option (List ℕ) → ℕ → ℕ → Type 0
Says line before now faults_before faults_now =
    ((now ≡ option_map (said line) before) × (faults_now ≡ faults_before))
    ⊎ (((now ≡ before) ⊎ SaidSome line before now) × (faults_before ≤ faults_now) × Rose faults_before faults_now)

-- a file that could not be read or written, by its name
unfoldable pub cannot_read : List ℕ → List ℕ
cannot_read name = codes "cannot read " ++ name ++ 10 ∷ []

unfoldable pub cannot_write : List ℕ → List ℕ
cannot_write name = codes "cannot write " ++ name ++ 10 ∷ []

-- a limit that was passed
unfoldable pub limit_file : List ℕ
limit_file = codes "limit file" ++ 10 ∷ []

unfoldable pub limit_commands : List ℕ
limit_commands = codes "limit commands" ++ 10 ∷ []

-- memory was wanting
unfoldable pub out_of_memory : List ℕ
out_of_memory = codes "out of memory" ++ 10 ∷ []
