-- How a file that is read is judged.
use Rattle.std.specs.Prelude.{ℕ, nat_lt, List, length, Option, Some, None, if◌then◌else◌}
use Rattle.tool_core.specs.declared.refusal.Refusal.{Refusal}
use Rattle.tool_core.specs.Refusals.{Wanted, refusal}

-- there is no such file; it has too many bytes, or too many entries; it is refused; or it is good
pub data Verdict : Type 0 where
  Lacking : Verdict
  TooLarge : Verdict
  TooMany : Verdict
  Refused : Refusal → Verdict
  Good : Verdict

-- the most bytes of a file
abbrev pub file_limit : ℕ
file_limit = 16777216

abbrev pub judged : Option Refusal → Verdict
judged None = Good
judged (Some why) = Refused why

unfoldable pub verdict_on : Wanted → Option (List ℕ) → Verdict
verdict_on wanted None = Lacking
verdict_on wanted (Some file) = if nat_lt file_limit (length file) then TooLarge else judged (refusal wanted file)
