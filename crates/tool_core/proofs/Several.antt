-- Several files that are written, one after the other.
use Rattle.std.proofs.Common.{◌≡◌, ℕ, zero, suc, ◌+◌, ◌<◌, List, [], ◌∷◌, ◌++◌, length, map, take, get_or, refl, sym, ◌∙◌, ap, subst, arith, length-append}
use Rattle.std.specs.Prelude.{Option, Some, None, IfSome, option_map, string_bytes}
use Rattle.std.specs.FinMap.{insert}
use Rattle.std.proofs.lemmas.List.{length-map}
use Rattle.std.proofs.Math.Seq.{take-length}
use Rattle.outside.specs.Files.{Files}
use Rattle.generator.specs.Generated.{generated_text}
use Rattle.tool_core.specs.declared.generate.ScriptFile.{ScriptFile}
use Rattle.tool_core.specs.Lines.{script_name}
use Rattle.tool_core.specs.Effects.{Output, output, written, scripts_of}
use Rattle.tool_core.specs.Outcomes.{BeginsOut}
use Rattle.tool_core.specs.Scripts.{FailsWriting, shown}

written_push : (files : Files) (outputs : List Output) (one : Output) → written (outputs ++ one ∷ []) files ≡ insert (written outputs files) one.name one.text
written_push files [] one = refl
written_push files (o ∷ outputs) one = written_push (insert files o.name o.text) outputs one

-- the files parted at one of them
record Parts (files : List ScriptFile) (i : ℕ) (d : ScriptFile) : Type 0 where
  rest : List Output
  whole : map shown files ≡ map shown (take i files) ++ shown (get_or files i d) ∷ rest
  next : map shown (take (i + 1) files) ≡ map shown (take i files) ++ shown (get_or files i d) ∷ []
  count : length (map shown (take i files)) ≡ i

parts : (files : List ScriptFile) (i : ℕ) (d : ScriptFile) → i < length files → Parts files i d
parts [] i d below = absurd (omega arith)
parts (f ∷ files) zero d below = record { rest = map shown files; whole = refl; next = refl; count = refl }
parts (f ∷ files) (suc i) d below =
    let p = parts files i d (omega arith) in
    let e : suc i + 1 ≡ suc (i + 1) = omega arith in
    record {
      rest = p.rest;
      whole = ap (λ (l : List Output). shown f ∷ l) p.whole;
      next = ap (λ (n : ℕ). map shown (take n (f ∷ files))) e ∙ ap (λ (l : List Output). shown f ∷ l) p.next;
      count = ap suc p.count;
    }

pub taken_more : (files : List ScriptFile) (i : ℕ) (d : ScriptFile) → i < length files
    → map shown (take (i + 1) files) ≡ map shown (take i files) ++ shown (get_or files i d) ∷ []
taken_more files i d below = (parts files i d below).next

pub no_file : (o : Option Files) (files : List ScriptFile) → o ≡ option_map (written (map shown (take 0 files))) o
no_file None files = refl
no_file (Some told) files = refl

pub one_more : (o mid now : Option Files) (files : List ScriptFile) (i : ℕ) (file : ScriptFile) → i < length files → file ≡ get_or files i file
    → mid ≡ option_map (written (map shown (take i files))) o
    → now ≡ option_map (λ (told : Files). insert told (string_bytes file.name) file.text.items) mid
    → now ≡ option_map (written (map shown (take (i + 1) files))) o
one_more None mid now files i file below is was made = made ∙ ap (option_map (λ (told : Files). insert told (string_bytes file.name) file.text.items)) was
one_more (Some told) mid now files i file below is was made =
    let p = parts files i file below in
    made ∙ ap (option_map (λ (t : Files). insert t (string_bytes file.name) file.text.items)) was
    ∙ ap (λ (t : Files). Some t)
    (ap (λ (f : ScriptFile). insert (written (map shown (take i files)) told) (string_bytes f.name) f.text.items) is
    ∙ sym (written_push told (map shown (take i files)) (shown (get_or files i file)))
    ∙ ap (λ (l : List Output). written l told) (sym p.next))

pub failed_in : (o mid now : Option Files) (files : List ScriptFile) (i : ℕ) (file : ScriptFile) → i < length files → file ≡ get_or files i file
    → mid ≡ option_map (written (map shown (take i files))) o
    → IfSome mid (λ (told : Files). BeginsOut told now (string_bytes file.name) file.text.items)
    → FailsWriting i (map shown files) o now
failed_in o mid now files i file below is was begun =
    let p = parts files i file below in
    record {
      file = shown file;
      earlier = map shown (take i files);
      later = p.rest;
      place = p.whole ∙ ap (λ (f : ScriptFile). map shown (take i files) ++ shown f ∷ p.rest) (sym is);
      number = sym p.count;
      begun = here o mid was begun;
    }
  where
    here : (a b : Option Files) → b ≡ option_map (written (map shown (take i files))) a
        → IfSome b (λ (told : Files). BeginsOut told now (string_bytes file.name) file.text.items)
        → IfSome a (λ (told : Files). BeginsOut (written (map shown (take i files)) told) now (string_bytes file.name) file.text.items)
    here None b e h = tt
    here (Some told) b e h =
        let k : IfSome (Some (written (map shown (take i files)) told)) (λ t. BeginsOut t now (string_bytes file.name) file.text.items) =
        subst (λ (f : Option Files). IfSome f (λ t. BeginsOut t now (string_bytes file.name) file.text.items)) e h in k

pub all_written : (o now : Option Files) (files : List ScriptFile) (i : ℕ) → i ≡ length files
    → now ≡ option_map (written (map shown (take i files))) o → now ≡ option_map (written (map shown files)) o
all_written o now files i ended is = is ∙ ap (λ (l : List ScriptFile). option_map (written (map shown l)) o) (ap (λ (n : ℕ). take n files) ended
    ∙ take-length files)

-- ---- the files of generated scripts
map_push : (files : List ScriptFile) (file : ScriptFile) → map shown (files ++ file ∷ []) ≡ map shown files ++ shown file ∷ []
map_push [] file = refl
map_push (f ∷ files) file = ap (λ (l : List Output). shown f ∷ l) (map_push files file)

pub script_more : (seed commands script : ℕ) (files : List ScriptFile) (file : ScriptFile) → map shown files ≡ scripts_of seed commands script
    → string_bytes file.name ≡ script_name script → file.text.items ≡ generated_text seed script commands
    → map shown (files ++ file ∷ []) ≡ scripts_of seed commands (script + 1)
script_more seed commands script files file was named text =
    let e : suc script ≡ script + 1 = omega arith in
    map_push files file
    ∙ ap (λ (l : List Output). l ++ shown file ∷ []) was
    ∙ ap (λ (n : List ℕ). scripts_of seed commands script ++ output n file.text.items ∷ []) named
    ∙ ap (λ (t : List ℕ). scripts_of seed commands script ++ output (script_name script) t ∷ []) text
    ∙ ap (scripts_of seed commands) e

pub count_scripts : (seed commands scripts : ℕ) (files : List ScriptFile) → map shown files ≡ scripts_of seed commands scripts → length files ≡ scripts
count_scripts seed commands scripts files is = sym (length-map files shown) ∙ ap length is ∙ count scripts
  where
    count : (k : ℕ) → length (scripts_of seed commands k) ≡ k
    count zero = refl
    count (suc k) = let h = count k in omega (
      arith,
      h,
      length-append (scripts_of seed commands k) (output (script_name k) (generated_text seed k commands)
          ∷ []),
    )

named_at : (files : List ScriptFile) (earlier later : List Output) (file : Output) (d : ScriptFile) → map shown files ≡ earlier ++ file ∷ later
    → string_bytes (get_or files (length earlier) d).name ≡ file.name
named_at [] [] later file d same = absurd (cc)
named_at [] (e ∷ earlier) later file d same = absurd (cc)
named_at (f ∷ files) [] later file d same = let first : shown f ≡ file = cc in ap (λ (o : Output). o.name) first
named_at (f ∷ files) (e ∷ earlier) later file d same = let rest : map shown files ≡ earlier ++ file ∷ later = cc in named_at files earlier later file d rest

pub named_failure : (files : List ScriptFile) (at : ℕ) (file : ScriptFile) (o now : Option Files) (fails : FailsWriting at (map shown files) o now)
    → string_bytes (get_or files at file).name ≡ fails.file.name
named_failure files at file o now fails =
    ap (λ (n : ℕ). string_bytes (get_or files n file).name) fails.number
    ∙ named_at files fails.earlier fails.later fails.file file fails.place
