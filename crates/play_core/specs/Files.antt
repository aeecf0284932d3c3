-- What a run leaves of the two files that it writes.
use Rattle.std.specs.Prelude.{◌≡◌, ◌≢◌, ◌⊎◌, ℕ, ◌≤◌, List, [], length, Option, Some, option_map, take}
use Rattle.std.specs.FinMap.{insert}
use Rattle.outside.specs.Files.{Files, IsFileBegun, created, file_of}
use Rattle.turns.specs.declared.target.Target.{Target}
use Rattle.turns.specs.declared.target.Target.TheVariants.{Sound, Order}

-- the files with these two in the place of what they were
abbrev pub with_two : List ℕ → List ℕ → List ℕ → List ℕ → Files → Files
with_two out sound name text files = insert (insert files out sound) name text

-- of the two files each is as before or begun, and all others are as before
pub record AreBegun (before now : Option Files) (out sound name text : List ℕ) : Type 0 where
  pub out_begun : IsFileBegun (file_of before out) (file_of now out) sound
  pub order_begun : IsFileBegun (file_of before name) (file_of now name) text
  pub others : (other : List ℕ) → other ≢ out → other ≢ name → file_of now other ≡ file_of before other

-- The files where a write failed: first the sound file is made, then the order file, then the bytes of the first are appended, then those of
-- the other.
abbrev pub IsStopped : Target → Option Files → Option Files → List ℕ → List ℕ → List ℕ → List ℕ → Type 0
IsStopped Sound before now out sound name text =
    (now ≡ before) ⊎ ((count : ℕ) × (count ≤ length sound) × (now ≡ option_map (with_two out (take count sound) name []) before))
IsStopped Order before now out sound name text =
    (now ≡ option_map (created out) before)
    ⊎ ((count : ℕ) × (count ≤ length text) × (now ≡ option_map (with_two out sound name (take count text)) before))
