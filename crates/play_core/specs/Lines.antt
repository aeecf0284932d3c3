-- The lines that are put to the output.
use Rattle.std.specs.Prelude.{ℕ, ◌==◌, List, [], ◌∷◌, ◌++◌, codes, decimal, slice_index_or, if◌then◌else◌}
use Rattle.fault_lines.specs.Lines.{cannot_read, limit_file, limit_commands, out_of_memory}
use Rattle.script_outcome.specs.declared.fault.Place.{Place}
use Rattle.script_outcome.specs.declared.fault.Place.TheVariants.{Line, Byte}
use Rattle.script_outcome.specs.declared.fault.ScriptKind.{ScriptKind}
use Rattle.script_outcome.specs.Text.{script_text}
use Rattle.play_core.specs.declared.refusal.PlayRefusal.{PlayRefusal}
use Rattle.play_core.specs.declared.refusal.PlayRefusal.TheVariants as why

-- the words are not of the grammar
unfoldable pub usage : List ℕ
usage = codes "usage: play OUT ORDER BLOCKS PLACES SCRIPT..." ++ 10 ∷ []

-- all scripts together have too many bytes
unfoldable pub limit_scripts : List ℕ
limit_scripts = codes "limit scripts" ++ 10 ∷ []

-- the sound would have too many blocks
unfoldable pub limit_blocks : List ℕ
limit_blocks = codes "limit blocks" ++ 10 ∷ []

-- where a fault is: a line, from 1 on, or a byte, from 0 on
unfoldable pub place_text : Place → List ℕ
place_text (Line number) = codes " line " ++ decimal number
place_text (Byte number) = codes " byte " ++ decimal number

-- a fault of the script with this number
unfoldable pub fault_line : ℕ → Place → ScriptKind → List ℕ
fault_line script place what = codes "script " ++ (decimal script ++ (place_text place ++ (codes ": " ++ (script_text what ++ 10 ∷ []))))

-- so many blocks, and so many commands in the journal
abbrev pub counts : ℕ → ℕ → List ℕ
counts blocks commands = codes " blocks " ++ (decimal blocks ++ (codes " commands " ++ (decimal commands ++ 10 ∷ [])))

-- all commands were played
unfoldable pub ok_line : ℕ → ℕ → List ℕ
ok_line blocks commands = codes "ok" ++ counts blocks commands

-- so many commands were left
unfoldable pub left_line : ℕ → ℕ → ℕ → List ℕ
left_line left blocks commands = codes "left " ++ (decimal left ++ counts blocks commands)

-- the report of a run
abbrev pub report : ℕ → ℕ → ℕ → List ℕ
report left blocks commands = if left == 0 then ok_line blocks commands else left_line left blocks commands

-- the line of a refusal, of scripts with these names
abbrev pub refusal_line : PlayRefusal → List (List ℕ) → List ℕ
refusal_line (why.Unread k) names = cannot_read (slice_index_or names k [])
refusal_line why.LongFile names = limit_file
refusal_line why.LongScripts names = limit_scripts
refusal_line (why.Fault script place what) names = fault_line script place what
refusal_line why.ManyCommands names = limit_commands
refusal_line why.ManyBlocks names = limit_blocks
refusal_line why.Memory names = out_of_memory

-- the status of a refusal
abbrev pub refusal_status : PlayRefusal → ℕ
refusal_status (why.Unread k) = 2
refusal_status why.LongFile = 6
refusal_status why.LongScripts = 6
refusal_status (why.Fault script place what) = 4
refusal_status why.ManyCommands = 6
refusal_status why.ManyBlocks = 6
refusal_status why.Memory = 8
