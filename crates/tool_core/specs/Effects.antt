-- What each command does: the files that it reads, and, where all of them are good, the files that it writes and the text that it prints.
use Rattle.std.specs.Prelude.{◌≡◌, ℕ, zero, suc, ◌-◌, ◌*◌, List, [], ◌∷◌, ◌++◌, length, map, replicate, Option, Some, None, IfSome, unwrap_or}
use Rattle.std.specs.FinMap.{insert}
use Rattle.outside.specs.Files.{Files, content}
use Rattle.voice_record.specs.Voice.{opening_voice}
use Rattle.cartridge.specs.Cartridge.{voice_at, IsMessageOf}
use Rattle.sysex_frame.specs.Frame.{IsFrame, VoiceDump}
use Rattle.take_files.specs.Files.{wav}
use Rattle.take_files.specs.Orders.{IsOrder, OrderData}
use Rattle.generator.specs.Generated.{generated_text, generated_journal, sum_of_samples}
use Rattle.tool_core.specs.Refusals.{AllMessages, OneVoice, OneCartridge, voice_in, cartridge_in}
use Rattle.tool_core.specs.Comparisons.{IsCompared}
use Rattle.tool_core.specs.Words.{RequestData, Check, ListVoices, Pick, Pack, Replay, Verify, Gen, Bench}
use Rattle.tool_core.specs.Inputs.{Input, input, Midi, AnOrder, ASound}
use Rattle.tool_core.specs.Lines.{ok_line, same_line, differs_line, check_report, list_report, script_name, scripts_line, bench_line}

-- a file that is written, with its bytes
pub record Output : Type 0 where
  pub name : List ℕ
  pub text : List ℕ

abbrev pub output : List ℕ → List ℕ → Output
output name text = record { name = name; text = text }

-- the status, the files that are written, one after the other, and the text that is printed
pub record Effect : Type 0 where
  pub status : ℕ
  pub writes : List Output
  pub prints : List ℕ

-- only a text is printed
abbrev pub prints : List ℕ → Effect
prints text = record { status = 0; writes = []; prints = text }

-- one file is written, and then `ok` is printed
abbrev pub writes : List ℕ → List ℕ → Effect
writes name text = record { status = 0; writes = output name text ∷ []; prints = ok_line }

-- the files with these in the place of what they were
abbrev pub written : List Output → Files → Files
written [] files = files
written (one ∷ later) files = written later (insert files one.name one.text)

-- the first cartridge of a file, and the voice of a slot of it
abbrev pub cartridge_of : Files → List ℕ → List (List ℕ)
cartridge_of files name = unwrap_or (cartridge_in (content files name)) []

abbrev pub picked : Files → List ℕ → ℕ → List ℕ
picked files name slot = voice_at (cartridge_of files name) slot

-- the first voice of a file
abbrev pub voice_of : Files → List ℕ → List ℕ
voice_of files name = unwrap_or (voice_in (content files name)) []

-- the first voice of each file, and opening voices after them
abbrev pub packed : Files → List (List ℕ) → List (List ℕ)
packed files names = map (voice_of files) names ++ replicate (32 - length names) opening_voice

-- the files of the first generated scripts
abbrev pub scripts_of : ℕ → ℕ → ℕ → List Output
scripts_of seed commands zero = []
scripts_of seed commands (suc k) = scripts_of seed commands k ++ output (script_name k) (generated_text seed k commands) ∷ []

-- a comparison: 0 where the files are the same, and 7 where they differ, at this offset first
abbrev pub comparison : Option ℕ → Effect
comparison None = record { status = 0; writes = []; prints = same_line }
comparison (Some offset) = record { status = 7; writes = []; prints = differs_line offset }

-- the files that a command reads, in order
abbrev pub reads : RequestData → List Input
reads (Check file) = input file (Midi AllMessages) ∷ []
reads (ListVoices file) = input file (Midi OneCartridge) ∷ []
reads (Pick file slot out) = input file (Midi OneCartridge) ∷ []
reads (Pack out files) = map (λ file. input file (Midi OneVoice)) files
reads (Replay order out) = input order AnOrder ∷ []
reads (Verify order sound) = input order AnOrder ∷ (input sound ASound ∷ [])
reads (Gen seed scripts commands) = []
reads (Bench seed blocks) = []

-- What the command does. What this states of a file's bytes holds where the files are told; all else holds over every shelf.
-- Messages that are written have the device number 0.
abbrev pub HasEffect : RequestData → Option Files → Effect → Type 0
HasEffect (Check file) files d = (text : List ℕ) × (d ≡ prints text) × IfSome files (λ told. text ≡ check_report (content told file))
HasEffect (ListVoices file) files d = (text : List ℕ) × (d ≡ prints text) × IfSome files (λ told. text ≡ list_report (cartridge_of told file))
HasEffect (Pick file slot out) files d =
    (text : List ℕ) × (d ≡ writes out text) × IfSome files (λ told. IsFrame text (VoiceDump 0 (picked told file slot)))
HasEffect (Pack out names) files d = (text : List ℕ) × (d ≡ writes out text) × IfSome files (λ told. IsMessageOf (packed told names) 0 text)
HasEffect (Replay order out) files d =
    (o : OrderData) × (d ≡ writes out (wav o.journal o.blocks)) × IfSome files (λ told. IsOrder (content told order) o)
HasEffect (Verify order sound) files d =
    (o : OrderData) × (offset : Option ℕ) × (d ≡ comparison offset)
    × IfSome files (λ told. IsOrder (content told order) o × IsCompared (content told sound) (wav o.journal o.blocks) offset)
HasEffect (Gen seed scripts commands) files d =
    d ≡ record { status = 0; writes = scripts_of seed commands scripts; prints = scripts_line scripts (scripts * commands) }
HasEffect (Bench seed blocks) files d =
    d ≡ prints (bench_line (length (generated_journal seed blocks)) blocks (sum_of_samples (generated_journal seed blocks) blocks))
