-- What a shelf and an output show at one time.
use Rattle.std.specs.Prelude.{ℕ, List, Option}
use Rattle.outside.specs.Files.{Files}

-- the files, the counts of faults of reading and of writing, the output's bytes and its count of faults
pub record Snapshot : Type 0 where
  pub files : Option Files
  pub reading : ℕ
  pub writing : ℕ
  pub written : Option (List ℕ)
  pub faults : ℕ

abbrev pub snapshot : Option Files → ℕ → ℕ → Option (List ℕ) → ℕ → Snapshot
snapshot files reading writing written faults =
    record { files = files; reading = reading; writing = writing; written = written; faults = faults }
