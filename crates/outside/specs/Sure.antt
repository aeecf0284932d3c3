-- What a shelf serves that never fails.
use Rattle.std.specs.Prelude.{ℕ, List, [], Option, None, Some}
use Rattle.outside.specs.declared.sure.SureShelf.{SureShelf}
use Rattle.outside.specs.Files.{Files}
use Rattle.outside.specs.Memory.{files_in}

-- the files that it serves reads from
abbrev pub served : SureShelf → Files
served shelf = files_in shelf.files.entries

-- it tells no files, and counts no faults
abbrev pub sure_files : SureShelf → Option Files
sure_files shelf = None

abbrev pub sure_faults : SureShelf → ℕ
sure_faults shelf = 0

-- its reads, and the bytes that they gave
abbrev pub sure_reads : SureShelf → ℕ
sure_reads shelf = shelf.reads

abbrev pub sure_given : SureShelf → ℕ
sure_given shelf = shelf.given

-- none of its writes fails
abbrev pub sure_failed : SureShelf → Option (List (List ℕ))
sure_failed shelf = Some []

-- it holds nothing back
abbrev pub sure_held : SureShelf → List ℕ → ℕ
sure_held shelf name = 0
