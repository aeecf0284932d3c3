-- How many bytes of a file on disk are held back, and what becomes of them.
use Rattle.std.specs.Prelude.{ℕ, ◌≡◌, ◌+◌, List, ◌++◌, length, Option, Bool, ◌&&◌, is_some, bytes_eq, if◌then◌else◌}
use Rattle.std.specs.Io.KnownBytes.{Appends}
use Rattle.outside.specs.declared.held.HeldFile.{HeldFile}
use Rattle.outside.specs.declared.held.HeldFiles.{HeldFiles}

-- the file by this name is open in this room
abbrev pub is_file_of : {F : Type 0} → HeldFile F → List ℕ → Bool
is_file_of room name = is_some room.file && bytes_eq room.name.bytes name

-- how many of its bytes the room holds back
abbrev pub held_in : {F : Type 0} → HeldFile F → List ℕ → ℕ
held_in room name = if is_file_of room name then length room.bytes.items else 0

-- how many both rooms hold back
abbrev pub held_by : {F : Type 0} → HeldFiles F → List ℕ → ℕ
held_by files name = held_in files.one name + held_in files.other name

-- a writer took the first of the bytes, where it tells what it was given, and just the rest is still held back
abbrev pub HasPassedOn : Option (List ℕ) → Option (List ℕ) → List ℕ → List ℕ → Type 0
HasPassedOn before now held rest = (taken : List ℕ) × Appends before now taken × (held ≡ taken ++ rest)
