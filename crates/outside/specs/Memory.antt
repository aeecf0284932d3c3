-- The files of a map in memory, and what a shelf in memory shows.
use Rattle.std.specs.Prelude.{ℕ, List, map, String, Vec, string_bytes, Option, Some, option_map}
use Rattle.std.specs.declared.alloc.Global.{Global}
use Rattle.std.specs.FinMap.{from_entries}
use Rattle.outside.specs.declared.memory.MemShelf.{MemShelf}
use Rattle.outside.specs.declared.failed_names.FailedNames.{FailedNames}
use Rattle.outside.specs.declared.output.MemOut.{MemOut}
use Rattle.outside.specs.Files.{Files}
use Rattle.outside.specs.Calls.{Calls, calls_of}

-- a name and its bytes, without where they lie in memory
abbrev pub named : String Global × Vec ℕ Global → List ℕ × List ℕ
named e = (string_bytes e.0, e.1.items)

abbrev pub files_in : List (String Global × Vec ℕ Global) → Files
files_in es = from_entries (map named es)

-- what a shelf in memory tells: its files, its two counts of faults, and its calls
abbrev pub shelf_files : MemShelf → Option Files
shelf_files shelf = Some (files_in shelf.files.entries)

abbrev pub reading_faults : MemShelf → ℕ
reading_faults shelf = shelf.reading

abbrev pub writing_faults : MemShelf → ℕ
writing_faults shelf = shelf.writing

-- it holds nothing back
abbrev pub shelf_held : MemShelf → List ℕ → ℕ
shelf_held shelf name = 0

-- how often it was read, and how many bytes that gave
abbrev pub read_calls : MemShelf → ℕ
read_calls shelf = shelf.reads

abbrev pub read_bytes : MemShelf → ℕ
read_bytes shelf = shelf.given

-- the names of the writes that failed, where there was memory for them
abbrev pub names_in : FailedNames → Option (List (List ℕ))
names_in failed = option_map (λ (v : Vec (String Global) Global). map string_bytes v.items) failed.names

abbrev pub failed_names : MemShelf → Option (List (List ℕ))
failed_names shelf = names_in shelf.failed

abbrev pub shelf_calls : MemShelf → Calls
shelf_calls shelf = calls_of shelf.failures

-- the same of an output in memory: its bytes, its count of faults, and its calls
abbrev pub put_bytes : MemOut → Option (List ℕ)
put_bytes out = Some out.bytes.items

abbrev pub put_faults : MemOut → ℕ
put_faults out = out.faults

abbrev pub put_calls : MemOut → Calls
put_calls out = calls_of out.failures
