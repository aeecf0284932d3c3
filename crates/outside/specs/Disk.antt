-- The counts of the shelf on disk and of the standard output.
use Rattle.std.specs.Prelude.{ℕ, List, Option, None}
use Rattle.outside.specs.declared.disk.DiskShelf.{DiskShelf}
use Rattle.outside.specs.declared.disk.StdOut.{StdOut}
use Rattle.outside.specs.Files.{Files}
use Rattle.outside.specs.Held.{held_by}

-- files on disk are not told
abbrev pub disk_files : {R File Dir : Type 0} → DiskShelf R File Dir → Option Files
disk_files shelf = None

abbrev pub disk_reading : {R File Dir : Type 0} → DiskShelf R File Dir → ℕ
disk_reading shelf = shelf.reading

abbrev pub disk_writing : {R File Dir : Type 0} → DiskShelf R File Dir → ℕ
disk_writing shelf = shelf.writing

-- its reads, and the bytes that they gave
abbrev pub disk_reads : {R File Dir : Type 0} → DiskShelf R File Dir → ℕ
disk_reads shelf = shelf.reads

abbrev pub disk_given : {R File Dir : Type 0} → DiskShelf R File Dir → ℕ
disk_given shelf = shelf.given

-- the names whose writes failed are not told
abbrev pub disk_failed : {R File Dir : Type 0} → DiskShelf R File Dir → Option (List (List ℕ))
disk_failed shelf = None

-- how many bytes of a file are held back
abbrev pub disk_held : {R File Dir : Type 0} → DiskShelf R File Dir → List ℕ → ℕ
disk_held shelf name = held_by shelf.held name

-- what was put on the standard output is not told
abbrev pub output_bytes : {R : Type 0} → StdOut R → Option (List ℕ)
output_bytes out = None

abbrev pub output_faults : {R : Type 0} → StdOut R → ℕ
output_faults out = out.faults
