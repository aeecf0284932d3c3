-- Scripts of generated commands, their texts, and the journal of four of them.
use Rattle.std.specs.Prelude.{ℕ, zero, suc, ◌+◌, ◌*◌, ◌/◌, ◌%◌, ◌^◌, ◌==◌, nat_lt, if◌then◌else◌, List, [], ◌∷◌, ◌++◌, map, filter, ℤ}
use Rattle.std.specs.Prelude.{pos, ◌+ℤ◌, fold, codes, decimal}
use Rattle.std.specs.List.{range_with_len, flat_map}
use Rattle.plain_text.specs.Split.{spaced}
use Rattle.voice_record.specs.declared.parameter.TheConstants.{ALGORITHM}
use Rattle.command_set.specs.Command.{CommandData, StartsNote, EndsNote, SetsParameter}
use Rattle.command_set.specs.Entries.{EntryData, LoggedData}
use Rattle.command_set.specs.Text.{text}
use Rattle.instrument.specs.Journal.{sound}
use Rattle.instrument.specs.Logging.{logged_at}
use Rattle.generator.specs.Lcg.{number_at}

-- the seed of a script's generator
unfoldable pub script_seed : ℕ → ℕ → ℕ
script_seed seed script = (seed + 1000003 * script) % 2 ^ 64

-- After so many numbers a command begins: the first says how many blocks pass, the second which of eight kinds it is.
abbrev pub kind : ℕ → ℕ → ℕ
kind seed index = number_at seed (index + 2) 8

-- that command with the numbers that are generated for it: four kinds of eight are notes, three are releases, and one sets the algorithm
unfoldable pub command_at : ℕ → ℕ → CommandData
command_at seed index =
    if nat_lt (kind seed index) 4 then StartsNote 0 (36 + number_at seed (index + 3) 60) (1 + number_at seed (index + 4) 127)
    else if nat_lt (kind seed index) 7 then EndsNote 0 (36 + number_at seed (index + 3) 60)
    else SetsParameter ALGORITHM (number_at seed (index + 3) 32)

-- how many numbers it needs
unfoldable pub numbers_at : ℕ → ℕ → ℕ
numbers_at seed index = if nat_lt (kind seed index) 4 then 4 else 3

-- how many numbers stand before command i
unfoldable pub numbers_before : ℕ → ℕ → ℕ
numbers_before seed zero = 0
numbers_before seed (suc i) = numbers_before seed i + numbers_at seed (numbers_before seed i)

-- command i, from 0 on
abbrev pub command : ℕ → ℕ → CommandData
command seed i = command_at seed (numbers_before seed i)

-- the block at which command i is due: up to 7 blocks after the one before
unfoldable pub due : ℕ → ℕ → ℕ
due seed zero = number_at seed 1 8
due seed (suc i) = due seed i + number_at seed (numbers_before seed (suc i) + 1) 8

-- the line `BLOCK TEXT` of command i
abbrev pub line : ℕ → ℕ → List ℕ
line seed i = spaced (decimal (due seed i)) (text (command seed i) ∷ []) ++ 10 ∷ []

-- the text of a script of so many generated commands
unfoldable pub generated_text : ℕ → ℕ → ℕ → List ℕ
generated_text seed script commands = codes "midi 1" ++ (10 ∷ flat_map (line (script_seed seed script)) (range_with_len 0 commands))

-- command i of a script as an entry, which is sent at its due block
abbrev pub entry : ℕ → ℕ → ℕ → EntryData
entry seed script i = record { script = script; seq = i; sent_at = due seed i; command = command seed i }

-- the entries of a script
abbrev pub entries : ℕ → ℕ → ℕ → List EntryData
entries seed script commands = map (entry (script_seed seed script) script) (range_with_len 0 commands)

-- those of so many commands of a script that are due at a block
abbrev pub due_at : ℕ → ℕ → ℕ → ℕ → List EntryData
due_at seed commands block script = filter (λ e. e.sent_at == block) (entries seed script commands)

-- those of the first scripts, in order of scripts
abbrev pub all_due_at : ℕ → ℕ → ℕ → ℕ → List EntryData
all_due_at seed commands scripts block = flat_map (due_at seed commands block) (range_with_len 0 scripts)

-- what is logged at a block: the entries of four scripts that are due at it
abbrev pub block_entries : ℕ → ℕ → ℕ → List LoggedData
block_entries seed commands block = map (logged_at block) (all_due_at seed commands 4 block)

-- the journal of the first blocks
abbrev pub journal_below : ℕ → ℕ → ℕ → List LoggedData
journal_below seed commands blocks = flat_map (block_entries seed commands) (range_with_len 0 blocks)

-- The journal of four scripts that are played for so many blocks, each of a quarter as many commands. Those that are due later are left out.
unfoldable pub generated_journal : ℕ → ℕ → List LoggedData
generated_journal seed blocks = journal_below seed (blocks / 4) blocks

-- the sum of numbers
abbrev pub total : List ℤ → ℤ
total samples = fold ◌+ℤ◌ (pos 0) samples

-- the sum of all samples of the first blocks
unfoldable pub sum_of_samples : List LoggedData → ℕ → ℤ
sum_of_samples journal blocks = total (flat_map (sound journal) (range_with_len 0 blocks))
