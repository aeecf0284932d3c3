-- The words that the program understands.
use Rattle.std.specs.Prelude.{ℕ, ◌<◌, ◌≤◌, ◌-◌, ◌*◌, ◌^◌, List, [], ◌∷◌, map, string_bytes, Option, None, Some, option_map, Bool}
use Rattle.std.specs.Prelude.{not, ◌&&◌, nat_lt, nat_le, length, bytes_eq, codes, if◌then◌else◌}
use Rattle.std.specs.List.{list_all}
use Rattle.tool_core.specs.declared.words.Request.{Request}
use Rattle.tool_core.specs.declared.words.Request.TheVariants as request
use Rattle.plain_text.specs.Number.{number}
use Rattle.plain_text.specs.Words.{is_nonempty}

-- what is requested: `check FILE`, `list FILE`, `pick FILE SLOT OUT`, `pack OUT FILE...`, `replay ORDER OUT`, `verify ORDER WAV`,
-- `gen SEED SCRIPTS COMMANDS` or `bench SEED BLOCKS`
pub data RequestData : Type 0 where
  Check : List ℕ → RequestData
  ListVoices : List ℕ → RequestData
  Pick : List ℕ → ℕ → List ℕ → RequestData
  Pack : List ℕ → List (List ℕ) → RequestData
  Replay : List ℕ → List ℕ → RequestData
  Verify : List ℕ → List ℕ → RequestData
  Gen : ℕ → ℕ → ℕ → RequestData
  Bench : ℕ → ℕ → RequestData

-- the same of a value of the program
abbrev pub request_data : Request → RequestData
request_data (request.Check file) = Check file.now
request_data (request.List file) = ListVoices file.now
request_data (request.Pick file slot out) = Pick file.now slot out.now
request_data (request.Pack out files) = Pack out.now (map string_bytes files.now)
request_data (request.Replay order out) = Replay order.now out.now
request_data (request.Verify order sound) = Verify order.now sound.now
request_data (request.Gen seed scripts commands) = Gen seed scripts commands
request_data (request.Bench seed blocks) = Bench seed blocks

-- the commands
unfoldable pub is_check : List ℕ → Bool
is_check word = bytes_eq word (codes "check")

unfoldable pub is_list : List ℕ → Bool
is_list word = bytes_eq word (codes "list")

unfoldable pub is_pick : List ℕ → Bool
is_pick word = bytes_eq word (codes "pick")

unfoldable pub is_pack : List ℕ → Bool
is_pack word = bytes_eq word (codes "pack")

unfoldable pub is_replay : List ℕ → Bool
is_replay word = bytes_eq word (codes "replay")

unfoldable pub is_verify : List ℕ → Bool
is_verify word = bytes_eq word (codes "verify")

unfoldable pub is_gen : List ℕ → Bool
is_gen word = bytes_eq word (codes "gen")

unfoldable pub is_bench : List ℕ → Bool
is_bench word = bytes_eq word (codes "bench")

-- no name is empty, and a name that is read differs from the one that is written
abbrev pub may_read : List ℕ → List ℕ → Bool
may_read out name = is_nonempty name && not (bytes_eq name out)

abbrev pub may_read_all : List ℕ → List (List ℕ) → Bool
may_read_all out names = list_all (λ name. may_read out name) names

-- FILE
abbrev pub file_of_words : List (List ℕ) → Option (List ℕ)
file_of_words [] = None
file_of_words (file ∷ []) = if is_nonempty file then Some file else None
file_of_words (file ∷ next ∷ later) = None

-- FILE SLOT OUT
abbrev pub pick_of : List ℕ → List ℕ → List ℕ → Option RequestData
pick_of file slot out =
    if is_nonempty out && may_read out file then option_map (λ n. Pick file n out) (number 0 31 slot) else None

abbrev pub pick_of_words : List (List ℕ) → Option RequestData
pick_of_words (file ∷ slot ∷ out ∷ []) = pick_of file slot out
pick_of_words words = None

-- OUT FILE...
abbrev pub pack_of_words : List (List ℕ) → Option RequestData
pack_of_words [] = None
pack_of_words (out ∷ files) =
    if is_nonempty out && (nat_lt 0 (length files) && (nat_le (length files) 32 && may_read_all out files)) then Some (Pack out files) else None

-- ORDER OUT
abbrev pub replay_of_words : List (List ℕ) → Option RequestData
replay_of_words (order ∷ out ∷ []) = if is_nonempty out && may_read out order then Some (Replay order out) else None
replay_of_words words = None

-- ORDER WAV; the two may be one file
abbrev pub verify_of_words : List (List ℕ) → Option RequestData
verify_of_words (order ∷ sound ∷ []) = if is_nonempty order && is_nonempty sound then Some (Verify order sound) else None
verify_of_words words = None

-- SEED, a number of 64 bits
abbrev pub seed_of : List ℕ → Option ℕ
seed_of text = number 0 (2 ^ 64 - 1) text

-- SEED SCRIPTS COMMANDS; the commands of all scripts are at most 1,000,000
abbrev pub gen_of : Option ℕ → Option ℕ → Option ℕ → Option RequestData
gen_of None scripts commands = None
gen_of (Some seed) None commands = None
gen_of (Some seed) (Some scripts) None = None
gen_of (Some seed) (Some scripts) (Some commands) = if nat_le (scripts * commands) 1000000 then Some (Gen seed scripts commands) else None

abbrev pub gen_of_words : List (List ℕ) → Option RequestData
gen_of_words (seed ∷ scripts ∷ commands ∷ []) = gen_of (seed_of seed) (number 1 256 scripts) (number 0 100000 commands)
gen_of_words words = None

-- SEED BLOCKS
abbrev pub bench_of : Option ℕ → Option ℕ → Option RequestData
bench_of None blocks = None
bench_of (Some seed) None = None
bench_of (Some seed) (Some blocks) = Some (Bench seed blocks)

abbrev pub bench_of_words : List (List ℕ) → Option RequestData
bench_of_words (seed ∷ blocks ∷ []) = bench_of (seed_of seed) (number 1 100000 blocks)
bench_of_words words = None

-- a command that generates scripts, and its words
abbrev pub request_of_generated : List ℕ → List (List ℕ) → Option RequestData
request_of_generated command words =
    if is_gen command then gen_of_words words else (if is_bench command then bench_of_words words else None)

-- a command that reads an order, or generates scripts, and its words
abbrev pub request_of_order : List ℕ → List (List ℕ) → Option RequestData
request_of_order command words =
    if is_replay command then replay_of_words words else (if is_verify command then verify_of_words words else request_of_generated command words)

-- a command and its words
abbrev pub request_of : List ℕ → List (List ℕ) → Option RequestData
request_of command words =
    if is_check command then option_map (λ file. Check file) (file_of_words words)
    else (if is_list command then option_map (λ file. ListVoices file) (file_of_words words)
    else (if is_pick command then pick_of_words words
    else (if is_pack command then pack_of_words words else request_of_order command words)))

abbrev pub requested_by : List (List ℕ) → Option RequestData
requested_by [] = None
requested_by (command ∷ words) = request_of command words

-- a slot is at most 31, 1 to 32 files are packed, 1 to 256 scripts of at most 100,000 commands are generated, and at most 100,000 blocks are played
abbrev pub IsInRange : Request → Type 0
IsInRange (request.Check file) = Unit {0}
IsInRange (request.List file) = Unit {0}
IsInRange (request.Pick file slot out) = slot ≤ 31
IsInRange (request.Pack out files) = (0 < length files.now) × (length files.now ≤ 32)
IsInRange (request.Replay order out) = Unit {0}
IsInRange (request.Verify order sound) = Unit {0}
IsInRange (request.Gen seed scripts commands) = (scripts ≤ 256) × (commands ≤ 100000) × (scripts * commands ≤ 1000000)
IsInRange (request.Bench seed blocks) = blocks ≤ 100000
