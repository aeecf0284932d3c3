-- The lines that are printed.
use Rattle.std.specs.Prelude.{ℕ, ℤ, zero, suc, ◌&&◌, nat_le, List, [], ◌∷◌, ◌++◌, length, map, slice_range, codes, decimal}
use Rattle.std.specs.Prelude.{Option, Some, None, if◌then◌else◌}
use Rattle.std.specs.List.{flat_map}
use Rattle.std.specs.Fmt.{signed_decimal}
use Rattle.cartridge.specs.Cartridge.{voice_at}
use Rattle.command_set.specs.Message.{clamped_voice}
use Rattle.fault_text.specs.Text.{frame_text}
use Rattle.sysex_frame.specs.Frame.{Content, VoiceDump, CartridgeDump, ParamChange, OtherChange, DumpRequest}
use Rattle.tool_core.specs.declared.refusal.Refusal.{Refusal}
use Rattle.take_files.specs.declared.read.OrderKind.{OrderKind}
use Rattle.take_files.specs.declared.read.OrderKind.TheVariants.{Line, Block, Script, Sequence, Many}
use Rattle.tool_core.specs.declared.refusal.Refusal.TheVariants.{TooLong, Fault, Cut, NoVoice, NoCartridge, Order}
use Rattle.tool_core.specs.SysEx.{SysExMessage, sysex_messages, sysex_before}
use Rattle.tool_core.specs.Refusals.{message_content}
use Rattle.voice_record.specs.declared.parameter.TheConstants.{NAME}

unfoldable pub usage : List ℕ
usage = codes "usage: tool COMMAND WORDS..." ++ 10 ∷ []

unfoldable pub ok_line : List ℕ
ok_line = codes "ok" ++ 10 ∷ []

unfoldable pub same_line : List ℕ
same_line = codes "same" ++ 10 ∷ []

-- the first offset at which two files differ
unfoldable pub differs_line : ℕ → List ℕ
differs_line offset = codes "differs at " ++ (decimal offset ++ 10 ∷ [])

-- the name of the file of a generated script
unfoldable pub script_name : ℕ → List ℕ
script_name script = codes "gen-" ++ (decimal script ++ codes ".txt")

-- how many scripts were written, and the commands of all
unfoldable pub scripts_line : ℕ → ℕ → List ℕ
scripts_line scripts commands = codes "scripts " ++ (decimal scripts ++ (codes " commands " ++ (decimal commands ++ 10 ∷ [])))

-- how many commands were played in how many blocks, and the sum of all samples
unfoldable pub bench_line : ℕ → ℕ → ℤ → List ℕ
bench_line commands blocks sum =
    codes "commands " ++ (decimal commands ++ (codes " blocks " ++ (decimal blocks ++ (codes " sum " ++ (signed_decimal sum ++ 10 ∷ [])))))

-- what is wrong with a line of an order; that there are too many entries is told by the line of that limit
unfoldable pub kind_text : OrderKind → List ℕ
kind_text Line = codes "line"
kind_text Block = codes "block"
kind_text Script = codes "script"
kind_text Sequence = codes "sequence"
kind_text Many = codes "many"

-- the line of a refusal; an offset is where the message begins
unfoldable pub refusal_line : Refusal → List ℕ
refusal_line (TooLong offset) = codes "fault " ++ (decimal offset ++ (codes " long" ++ 10 ∷ []))
refusal_line (Fault offset fault) = codes "fault " ++ (decimal offset ++ (32 ∷ (frame_text fault ++ 10 ∷ [])))
refusal_line Cut = codes "cut" ++ 10 ∷ []
refusal_line NoVoice = codes "no voice" ++ 10 ∷ []
refusal_line NoCartridge = codes "no cartridge" ++ 10 ∷ []
refusal_line (Order line kind) = codes "order line " ++ (decimal line ++ (codes ": " ++ (kind_text kind ++ 10 ∷ [])))

-- a byte of a name; one that can't be printed is shown as a point
abbrev pub shown : ℕ → ℕ
shown byte = if nat_le 32 byte && nat_le byte 126 then byte else 46

-- the ten bytes of a voice's name
abbrev pub shown_name : List ℕ → List ℕ
shown_name voice = map shown (slice_range voice NAME 155)

-- the line of a voice by its bytes, and that of a parameter and its new value
unfoldable pub voice_line : List ℕ → List ℕ
voice_line payload = codes "voice " ++ (shown_name (clamped_voice payload) ++ 10 ∷ [])

unfoldable pub param_line : ℕ → ℕ → List ℕ
param_line number value = codes "param " ++ (decimal number ++ (32 ∷ (decimal value ++ 10 ∷ [])))

-- the line of a message
unfoldable pub content_line : Option Content → List ℕ
content_line None = codes "other" ++ 10 ∷ []
content_line (Some (VoiceDump device payload)) = voice_line payload
content_line (Some (CartridgeDump device payload)) = codes "cartridge" ++ 10 ∷ []
content_line (Some (ParamChange device number value)) = param_line number value
content_line (Some (OtherChange device group number)) = codes "other" ++ 10 ∷ []
content_line (Some (DumpRequest device)) = codes "request" ++ 10 ∷ []

abbrev pub message_line : SysExMessage → List ℕ
message_line sysex = content_line (message_content sysex)

-- the last line of a check
unfoldable pub count_line : ℕ → List ℕ
count_line count = codes "messages " ++ (decimal count ++ 10 ∷ [])

-- the lines of the messages that end before an offset
unfoldable pub lines_before : List ℕ → ℕ → List ℕ
lines_before file offset = flat_map message_line (sysex_before file offset)

-- a line for each message of a file, and their number
unfoldable pub check_report : List ℕ → List ℕ
check_report file = lines_before file (length file) ++ count_line (length (sysex_messages file))

-- SLOT NAME
unfoldable pub name_line : ℕ → List ℕ → List ℕ
name_line slot voice = decimal slot ++ (32 ∷ (shown_name voice ++ 10 ∷ []))

-- the lines of the slots below some slot
unfoldable pub name_lines : List (List ℕ) → ℕ → List ℕ
name_lines voices zero = []
name_lines voices (suc slot) = name_lines voices slot ++ name_line slot (voice_at voices slot)

-- the names of 32 voices
unfoldable pub list_report : List (List ℕ) → List ℕ
list_report voices = name_lines voices 32
